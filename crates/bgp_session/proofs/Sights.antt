-- A pull shows what the octets that it consumes show one by one.
use Rattle.bgp_session.proofs.Prelude.{◌≡◌, ℕ, Bool, true, false, List, [], ◌∷◌, ◌++◌, map, take, drop, Option, None, Some, option_map, Result}
use Rattle.bgp_session.proofs.Prelude.{Bor, refl, sym, ap, ap₂, subst, ◌∙◌, append_assoc, inl, inr, option_copied, take-append-drop, append-nil, ArrayVec}
use Rattle.bgp_session.proofs.Prelude.{AreOctets, Context, HeadFault, Message, Waits, IsHeld, Takes, CountsFed, Judges, behind_feed, with_octet, Action}
use Rattle.bgp_session.proofs.Prelude.{State, Done, settled, by_octet, by_octets, IsPulled, IsReady, Machine, holding, hearer, listens, hears}
use Rattle.bgp_session.proofs.Prelude.{is_hearer, pulls_as_fed, IsHeld-fed, all_held, content_is, empty_waits, front_by_octets, idles}
use Rattle.bgp_session.proofs.Prelude.{judged_empty, none_left, none_more, pull_waits, rests, settled_by, took_none, waits_or_stops, Side}
use Rattle.bgp_session.proofs.Prelude.{with_machine, left_seen, Pair, all_acted, Sight, Came, Heard, observed, step_seen, settled_seen, came_if, octet_seen}
use Rattle.bgp_session.proofs.Prelude.{octets_seen}
use Rattle.bgp_session.proofs.Acts.{all_keeps}
use Rattle.bgp_session.proofs.Plays.{observed_both}
use Rattle.bgp_frame.specs.Kind.{plain}
use Rattle.bgp_frame.specs.steps.AreTypes.{plain-are}

module _ (side : Side) where
  -- octets in two parts
  seen_in_parts : (x : Machine) (a b : List ℕ) → octets_seen side x (a ++ b) ≡ octets_seen side x a ++ octets_seen side (by_octets x a).session b
  seen_in_parts x [] b = refl
  seen_in_parts x (octet ∷ a) b =
      let y : Machine = (by_octet x octet).session in
      ap (λ (l : List Sight). octet_seen side x octet ++ l) (seen_in_parts y a b)
      ∙ sym (append_assoc (octet_seen side x octet) (octets_seen side y a) (octets_seen side (by_octets y a).session b))

  -- nothing is shown of an incomplete message
  waits_unseen : (x : Machine) → Waits x.held → settled_seen side x ≡ []
  waits_unseen x waits = ap (step_seen side x) (idles hearer is_hearer x waits)

  left_waiting : (x : Machine) (rest : List ℕ) → Waits x.held → left_seen side x rest ≡ octets_seen side x rest
  left_waiting x rest waits =
      ap (λ (l : List Sight). l ++ octets_seen side (settled x).session rest) (waits_unseen x waits)
      ∙ ap (λ (d : Done). octets_seen side d.session rest) (rests hearer is_hearer x waits)

  -- octets that aren't accepted show nothing
  module _ (x : Machine) (deaf : listens x.standing.state ≡ false) (waits : Waits x.held) where
    drops_one : (octet : ℕ) → octet_seen side x octet ≡ []
    drops_one octet = ap (λ (b : Bool). came_if b side octet ++ settled_seen side (holding x (with_octet b x.held octet))) deaf ∙ waits_unseen x waits

    stays_so : (octet : ℕ) → (by_octet x octet).session ≡ x
    stays_so octet = ap (λ (b : Bool). (settled (holding x (with_octet b x.held octet))).session) deaf ∙ ap (λ (d : Done). d.session) (rests hearer is_hearer x waits)

    drops_unseen : (piece : List ℕ) → octets_seen side x piece ≡ []
    drops_unseen [] = refl
    drops_unseen (octet ∷ piece) =
        ap₂ (λ (l : List Sight) (m : Machine). l ++ octets_seen side m piece) (drops_one octet) (stays_so octet) ∙ drops_unseen piece

  module _ (x : Machine) (up : listens x.standing.state ≡ true) where
    seen_one : (held : List ℕ) (octet : ℕ) → octet_seen side (holding x held) octet ≡ Came side octet ∷ settled_seen side (holding x (held ++ octet ∷ []))
    seen_one held octet = ap (λ (b : Bool). came_if b side octet ++ settled_seen side (holding x (with_octet b held octet))) up

    held_one : (held : List ℕ) (octet : ℕ) → Waits (held ++ octet ∷ []) → (by_octet (holding x held) octet).session ≡ holding x (held ++ octet ∷ [])
    held_one held octet waits =
        ap (λ (b : Bool). (settled (holding x (with_octet b held octet))).session) up ∙ ap (λ (d : Done). d.session) (rests hearer is_hearer (holding x (held ++ octet ∷ [])) waits)

    -- octets arrive that can all be held, and then what is held is judged
    seen_front : (front : List ℕ) → Waits x.held → IsHeld (x.held ++ front) → octets_seen side x front ≡ map (Came side) front ++ settled_seen side (holding x (x.held ++ front))
    seen_front [] waits is = sym (waits_unseen x waits) ∙ ap (λ (h : List ℕ). settled_seen side (holding x h)) (sym (append-nil x.held))
    seen_front (octet ∷ front) waits is =
        let whole = x.held ++ octet ∷ front in
        all_held plain plain-are (λ held later. octets_seen side (holding x held) later ≡ map (Came side) later ++ settled_seen side (holding x whole)) whole
        (λ held octet joined.
        append-nil (octet_seen side (holding x held) octet) ∙ seen_one held octet ∙ ap (λ (h : List ℕ). Came side octet ∷ settled_seen side (holding x h)) joined)
        (λ held octet next later more_waits goes.
        ap₂ (λ (l : List Sight) (m : Machine). l ++ octets_seen side m (next ∷ later))
        (seen_one held octet ∙ ap (λ (l : List Sight). Came side octet ∷ l) (waits_unseen (holding x (held ++ octet ∷ [])) more_waits)) (held_one held octet more_waits)
        ∙ ap (λ (l : List Sight). Came side octet ∷ l) goes)
        is x.held octet front refl

  -- octets are consumed that can all be held
  seen_taking : (x : Machine) (piece : List ℕ) (n : ℕ) → listens x.standing.state ≡ true → Waits x.held → IsHeld x.held → AreOctets piece → Takes x.held piece n
      → left_seen side x piece ≡ map (Came side) (take n piece) ++ left_seen side (holding x (x.held ++ take n piece)) (drop n piece)
  seen_taking x piece n up waits is octets takes =
      let front : List ℕ = take n piece in
      let back : List ℕ = drop n piece in
      let z : Machine = holding x (x.held ++ front) in
      let fits : IsHeld (x.held ++ front) = IsHeld-fed plain plain-are x.held piece n is octets takes in
      left_waiting x piece waits
      ∙ ap (octets_seen side x) (sym (take-append-drop n piece))
      ∙ seen_in_parts x front back
      ∙ ap₂ (λ (l m : List Sight). l ++ m) (seen_front x up front waits fits)
      (ap (λ (d : Done). octets_seen side d.session back) (front_by_octets hearer is_hearer x up front waits fits))
      ∙ append_assoc (map (Came side) front) (settled_seen side z) (octets_seen side (settled z).session back)

  -- what is held is judged, and the rest goes to a session that holds nothing
  seen_judging : (x : Machine) (actions : List Action) (y : Machine) (rest : List ℕ) → Judges hearer x actions y
      → left_seen side x rest ≡ Heard side x.standing.context y.standing.state actions ∷ left_seen side y rest
  seen_judging x actions y rest j =
      let step = hears x.settings x.standing j.what in
      ap (λ (l : List Sight). l ++ octets_seen side (settled x).session rest)
      (ap (λ (o : Option (Result Message HeadFault)). step_seen side x (option_map (hears x.settings x.standing) o)) (content_is plain plain-are j.what x.held j.is_held))
      ∙ ap (λ (e : Done). Heard side x.standing.context step.next.state step.actions ∷ octets_seen side e.session rest) (settled_by hearer is_hearer x actions y j)
      ∙ ap₂ (λ (st : State) (acts : List Action). Heard side x.standing.context st acts ∷ octets_seen side y rest) (sym (ap (λ (m : Machine). m.standing.state) j.leaves)) (sym j.does)
      ∙ ap (λ (l : List Sight). Heard side x.standing.context y.standing.state actions ∷ l)
      (sym (left_waiting y rest (empty_waits hearer is_hearer y (judged_empty hearer is_hearer x actions y j))))

  -- a feed shows the octets that it consumes
  seen_none : (x : Machine) (piece : List ℕ) (n : ℕ) → n ≡ 0 → left_seen side x piece ≡ map (Came side) (take n piece) ++ left_seen side (behind_feed hearer x piece n) (drop n piece)
  seen_none x piece n none =
      subst (λ (k : ℕ). left_seen side x piece ≡ map (Came side) (take k piece) ++ left_seen side (behind_feed hearer x piece k) (drop k piece)) (sym none)
      (ap (λ (m : Machine). left_seen side m piece) (sym (took_none hearer is_hearer x piece 0 refl)))

  seen_feed : (x : Machine) (piece : List ℕ) (n : ℕ) → IsReady x → AreOctets piece → (up : Bool) → listens x.standing.state ≡ up → CountsFed up x.held piece n
      → left_seen side x piece ≡ map (Came side) (take n piece) ++ left_seen side (behind_feed hearer x piece n) (drop n piece)
  seen_feed x piece n ready octets false deaf none = seen_none x piece n none
  seen_feed x piece n ready octets true up counts =
      elim (waits_or_stops plain plain-are x.held ready.can_hold) [
        | inl waits ↦ seen_taking x piece n up waits ready.can_hold octets counts.0
        | inr stops ↦ seen_none x piece n (none_more plain plain-are x.held piece n stops counts.0)
      ]

  unseen : (x : Machine) (piece : List ℕ) (up : Bool) → listens x.standing.state ≡ up → Waits x.held → CountsFed up x.held piece 0 → octets_seen side x piece ≡ []
  unseen x piece true up waits counts = ap (octets_seen side x) (none_left plain plain-are piece (counts.1 waits))
  unseen x piece false deaf waits counts = drops_unseen x deaf waits piece

-- ---- what an observer has of a pull

module _ {S : Type 0} (after : S → Sight → S) (s t : S) (side : Side) (x : Machine) (piece : List ℕ) (ready : IsReady x) (octets : AreOctets piece) where
  -- once these octets arrived
  abbrev then_came : ℕ → S
  then_came n = observed after s (map (Came side) (take n piece))

  sees_fed : (n : ℕ) → CountsFed (listens x.standing.state) x.held piece n
      → observed after s (left_seen side x piece) ≡ observed after (then_came n) (left_seen side (behind_feed hearer x piece n) (drop n piece))
  sees_fed n counts =
      ap (observed after s) (seen_feed side x piece n ready octets (listens x.standing.state) refl counts)
      ∙ observed_both after s (map (Came side) (take n piece)) (left_seen side (behind_feed hearer x piece n) (drop n piece))

  abbrev Goes : ℕ → Machine → Type 0
  Goes n y = observed after s (left_seen side x piece) ≡ observed after t (left_seen side y (drop n piece))

  -- something was judged
  pub sees_step : (n : ℕ) (actions : ArrayVec Action) (y : Machine) → IsPulled x piece n (Some actions) y
      → t ≡ after (then_came n) (Heard side x.standing.context y.standing.state actions.items) → Goes n y
  sees_step n actions y p told =
      let call = pulls_as_fed x piece n (Some actions.items) y p in
      sees_fed n call.fed.0
      ∙ ap (observed after (then_came n)) (seen_judging side (behind_feed hearer x piece n) actions.items y (drop n piece) call.next)
      ∙ ap (λ (u : S). observed after u (left_seen side y (drop n piece))) (sym told)

  pub sees_more : (n : ℕ) (y : Machine) → IsPulled x piece n None y → t ≡ then_came n → Goes n y
  sees_more n y p told =
      let call = pulls_as_fed x piece n None y p in
      sees_fed n call.fed.0 ∙ ap₂ (λ (u : S) (m : Machine). observed after u (left_seen side m (drop n piece))) (sym told) (sym call.next)

  -- nothing remains to be shown
  pub sees_none : (y : Machine) → IsPulled x piece 0 None y → t ≡ then_came 0 → observed after s (left_seen side x piece) ≡ t
  sees_none y p told =
      let waits = pull_waits hearer is_hearer x piece 0 y ready.holds_none p in
      ap (observed after s) (left_waiting side x piece waits ∙ unseen side x piece (listens x.standing.state) refl waits (pulls_as_fed x piece 0 None y p).fed.0) ∙ sym told

-- ---- what the code has of a pull

-- the context that was copied
pub context_copied : (copied : Option Context) (o : Option (Bor Context)) (ctx : Option Context) → copied ≡ option_copied o → option_map (λ (c : Bor Context). c.now) o ≡ ctx → copied ≡ ctx
context_copied copied None ctx is same = is ∙ same
context_copied copied (Some c) ctx is same = is ∙ same

module _ {S : Type 0} (after : S → Sight → S) (s mid t : S) (side : Side) (p : Pair) (piece front : List ℕ) (n : ℕ) (y : Machine) (found : Option (ArrayVec Action)) (ready : IsReady p.this.session)
    (octets : AreOctets piece) (is_pulled : IsPulled p.this.session piece n found y) (front_is : front ≡ take n piece) (came : mid ≡ observed after s (map (Came side) front)) where
  found_so : (o : Option (ArrayVec Action)) → found ≡ o → IsPulled p.this.session piece n o y
  found_so o is = subst (λ (f : Option (ArrayVec Action)). IsPulled p.this.session piece n f y) is is_pulled

  came_so : mid ≡ observed after s (map (Came side) (take n piece))
  came_so = came ∙ ap (λ (f : List ℕ). observed after s (map (Came side) f)) front_is

  pub saw_step : (actions : ArrayVec Action) (q : Pair) (ctx : Option Context) (st : State) (acts : List Action) → found ≡ Some actions → all_acted side (with_machine p y) actions.items ≡ q
      → ctx ≡ p.this.session.standing.context → st ≡ y.standing.state → acts ≡ actions.items → t ≡ after mid (Heard side ctx st acts)
      → observed after s (left_seen side p.this.session piece) ≡ observed after t (left_seen side q.this.session (drop n piece))
  saw_step actions q ctx st acts is does agreed stands same told =
      let session : q.this.session ≡ y = ap (λ (r : Pair). r.this.session) (sym does) ∙ all_keeps side (with_machine p y) actions.items in
      let heard : t ≡ after (observed after s (map (Came side) (take n piece))) (Heard side p.this.session.standing.context y.standing.state actions.items) =
      told ∙ ap (λ (u : S). after u (Heard side ctx st acts)) came_so
      ∙ ap (λ (c : Option Context). after (observed after s (map (Came side) (take n piece))) (Heard side c st acts)) agreed
      ∙ ap₂ (λ (z : State) (l : List Action). after (observed after s (map (Came side) (take n piece))) (Heard side p.this.session.standing.context z l)) stands same in
      sees_step after s t side p.this.session piece ready octets n actions y (found_so (Some actions) is) heard
      ∙ ap (λ (m : Machine). observed after t (left_seen side m (drop n piece))) (sym session)

  pub saw_more : found ≡ None → observed after s (left_seen side p.this.session piece) ≡ observed after mid (left_seen side y (drop n piece))
  saw_more is = sees_more after s mid side p.this.session piece ready octets n y (found_so None is) came_so

  pub saw_none : found ≡ None → n ≡ 0 → observed after s (left_seen side p.this.session piece) ≡ mid
  saw_none is none =
      sees_none after s mid side p.this.session piece ready octets y (subst (λ (k : ℕ). IsPulled p.this.session piece k None y) none (found_so None is))
      (came_so ∙ ap (λ (k : ℕ). observed after s (map (Came side) (take k piece))) none)
