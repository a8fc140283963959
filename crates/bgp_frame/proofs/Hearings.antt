-- However octets are cut, and by whatever calls they are received, the actions on them are those octet by octet.
use Rattle.bgp_wire.proofs.Std.{◌≡◌, ℕ, zero, suc, ◌+◌, ◌-◌, ◌<◌, ◌≤◌, min, ◌⊎◌, Bool, true, false, List, [], ◌∷◌, ◌++◌, length, take, drop, Option, None, Some, option_map, Result, Ok, Err, refl, sym, ap, ap₂, subst, ◌∙◌, append_assoc, arith, inl, inr, flat_map, take-add, cases_lt, take-append-drop}
use Rattle.std.proofs.lemmas.List.{append-nil, length-append, length-drop, take_all}
use Rattle.bgp_wire.specs.Prelude.{AreOctets}
use Rattle.bgp_wire.proofs.OctetLemmas.{AreOctets-drop, AreOctets-front, AreOctets-back}
use Rattle.bgp_frame.specs.declared.fault.HeadFault.{HeadFault}
use Rattle.bgp_frame.specs.Prelude.{AreTypes, Calls, CanBeHeard, CountsFedIn, Done, Hearer, IsAtRest, IsContentIn, IsFed, IsFedAndJudged, IsHeldIn, IsPulled, IsReady, IsToFeedIn, Judges, MessageIn, PullsIn, PullsNext, Run, Runs, StopsIn, TakesIn, Types, WaitsIn, Way, all_octets, behind, behind_feed, by_feed, by_octet, by_octets, content_in, content_of_in, done_by, given, judged, left_to_do, one_if_any, settled, wanted_in, weight, with_octet}
use Rattle.bgp_frame.proofs.Contents.{enough, content_of-waits, content_of-frame, content_of-fault}
use Rattle.bgp_frame.proofs.Feeding.{takes_some, Fills, Fills-takes, Fills-held}
use Rattle.bgp_frame.proofs.FrameLemmas.{one_count, wanted_under, wanted-append, wanted-bounds, wanted-Stops, Stops-wanted}
use Rattle.bgp_frame.proofs.Holding.{IsHeld_nil}
use Rattle.bgp_frame.proofs.Pulls.{held_pulls, nothing_waits}

module _ {K : Type 0} (ty : Types K) (okay : AreTypes ty) where
  -- ---- octets that are held

  -- a feed fills up to a header, and then up to the header's Length
  count_taken : (held piece : List ℕ) → IsHeldIn ty held → AreOctets piece → (n : ℕ) × TakesIn ty held piece n × IsHeldIn ty (held ++ take n piece)
  count_taken held piece is octets =
      let first : ℕ = min (19 - length held) (length piece) in
      let headed : List ℕ = held ++ take first piece in
      let second : ℕ = min (wanted_in ty headed - length headed) (length piece - first) in
      let f : Fills ty okay held piece first second = record { held_is = is; octets = octets; first_is = refl; second_is = refl } in
      let joined : headed ++ take second (drop first piece) ≡ held ++ take (first + second) piece =
      append_assoc held (take first piece) (take second (drop first piece)) ∙ ap (λ (b : List ℕ). held ++ b) (sym (take-add first second piece)) in
      (first + second, Fills-takes ty okay held piece first second f, subst (IsHeldIn ty) joined (Fills-held ty okay held piece first second f))

  pub IsHeld-fed : (held piece : List ℕ) (n : ℕ) → IsHeldIn ty held → AreOctets piece → TakesIn ty held piece n → IsHeldIn ty (held ++ take n piece)
  IsHeld-fed held piece n is octets takes =
      let f = count_taken held piece is octets in
      subst (λ (k : ℕ). IsHeldIn ty (held ++ take k piece)) (one_count ty okay held piece f.0 n f.1 takes) f.2

  -- what can be held is incomplete, or whole
  pub waits_or_stops : (b : List ℕ) → IsHeldIn ty b → WaitsIn ty b ⊎ StopsIn ty b
  waits_or_stops b is =
      elim (cases_lt (length b) (wanted_in ty b)) [
        | inl waits ↦ inl waits
        | inr long ↦ let bounds = wanted-bounds ty okay b in let within = is.within in inr (wanted-Stops ty okay b is.octets (omega (arith, bounds.0)) (omega arith))
      ]

  -- what has no outcome yet is incomplete
  pub none_waits : {S : Type 0} (of : Result (MessageIn K) HeadFault → S) (b : List ℕ) → option_map of (content_of_in ty b) ≡ None → WaitsIn ty b
  none_waits of b none =
      elim (cases_lt (length b) (wanted_in ty b)) [
        | inl waits ↦ waits
        | inr long ↦ absurd (let not : None ≡ Some (of (content_in ty b)) = sym none ∙ ap (option_map of) (enough ty okay b long) in cc)
      ]

  pub not_whole : (b : List ℕ) → WaitsIn ty b → StopsIn ty b → ⊥
  not_whole b waits stops = let long = Stops-wanted ty okay b stops in omega (arith, long.1)

  -- a proper front of octets that can be held is incomplete
  pub front_waits : (a b : List ℕ) → length (a ++ b) ≤ wanted_in ty (a ++ b) → 0 < length b → WaitsIn ty a
  front_waits a b within some =
      let all = length-append a b in
      elim (cases_lt (length a) 19) [
        | inl short ↦ let e = wanted_under ty okay a short in omega arith
        | inr long ↦ let e = wanted-append ty okay a b long in omega arith
      ]

  -- The actions on octets that can all be held, after an incomplete message: it is enough to know those on the last, and that the others are held
  module _ (P : List ℕ → List ℕ → Type 0) (whole : List ℕ) (last : (held : List ℕ) (octet : ℕ) → held ++ octet ∷ [] ≡ whole → P held (octet ∷ []))
      (on : (held : List ℕ) (octet next : ℕ) (later : List ℕ) → WaitsIn ty (held ++ octet ∷ []) → P (held ++ octet ∷ []) (next ∷ later) → P held (octet ∷ next ∷ later)) where
    pub all_held : IsHeldIn ty whole → (held : List ℕ) (octet : ℕ) (later : List ℕ) → held ++ octet ∷ later ≡ whole → P held (octet ∷ later)
    all_held is held octet [] joined = last held octet joined
    all_held is held octet (next ∷ later) joined =
        let more : List ℕ = held ++ octet ∷ [] in
        let regrouped : more ++ next ∷ later ≡ whole = append_assoc held (octet ∷ []) (next ∷ later) ∙ joined in
        let within : length (more ++ next ∷ later) ≤ wanted_in ty (more ++ next ∷ later) = subst (λ (b : List ℕ). length b ≤ wanted_in ty b) (sym regrouped) is.within in
        on held octet next later (front_waits more (next ∷ later) within (omega arith)) (all_held is more next later regrouped)

  pub content_is : (what : Result (MessageIn K) HeadFault) (b : List ℕ) → IsContentIn ty what b → content_of_in ty b ≡ Some what
  content_is (Ok m) b is = content_of-frame ty okay m b is
  content_is (Err f) b is = content_of-fault ty okay b f is.0 is.1

  pub content_stops : (what : Result (MessageIn K) HeadFault) (b : List ℕ) → IsContentIn ty what b → StopsIn ty b
  content_stops (Ok m) b is = inl (m, is)
  content_stops (Err f) b is = inr (is.0, (f, is.1))

  content_found : (b : List ℕ) → StopsIn ty b → (what : Result (MessageIn K) HeadFault) × IsContentIn ty what b
  content_found b (inl whole) = (Ok whole.0, whole.1)
  content_found b (inr faulty) = (Err faulty.1.0, (faulty.0, faulty.1.1))

  -- of no octets, none are consumed
  pub counts_nothing : (up : Bool) (held : List ℕ) → CountsFedIn ty up held [] 0
  counts_nothing true held = (record { within = omega arith; no_sooner = λ k lt stops. absurd (omega arith); all_or_stops = inl refl }, λ waits some. some)
  counts_nothing false held = refl

  -- where what is held is whole, nothing is consumed
  pub none_more : (held piece : List ℕ) (n : ℕ) → StopsIn ty held → TakesIn ty held piece n → n ≡ 0
  none_more held piece zero stops takes = refl
  none_more held piece (suc n) stops takes = absurd (takes.no_sooner 0 (omega arith) (subst (StopsIn ty) (sym (append-nil held)) stops))

  pub counts_within : (up : Bool) (held piece : List ℕ) (n : ℕ) → CountsFedIn ty up held piece n → n ≤ length piece
  counts_within true held piece n counts = counts.0.within
  counts_within false held piece n none = omega (arith, none)

  -- the count where octets are consumed
  pub taken_up : (up : Bool) (held piece : List ℕ) (n : ℕ) → up ≡ true → CountsFedIn ty up held piece n → CountsFedIn ty true held piece n
  taken_up true held piece n is counts = counts
  taken_up false held piece n is counts = absurd (let not : false ≡ true = is in cc)

  pub not_both : (b : Bool) → b ≡ true → b ≡ false → ⊥
  not_both b up deaf = cc

  pub none_left : (piece : List ℕ) → (0 < length piece → 0 < 0) → piece ≡ []
  none_left [] none = refl
  none_left (octet ∷ piece) none = absurd (let not : 0 < 0 = none (omega arith) in omega arith)

  take_none : (n : ℕ) → take {A = ℕ} n [] ≡ []
  take_none zero = refl
  take_none (suc n) = refl

  one_at_most : (held : List ℕ) → one_if_any held ≤ 1
  one_at_most [] = omega arith
  one_at_most (octet ∷ held) = omega arith

  one_there : (held : List ℕ) → 0 < length held → one_if_any held ≡ 1
  one_there [] some = absurd (omega arith)
  one_there (octet ∷ held) some = refl

-- ---- a receiver

-- nothing else of a receiver depends on the octets that it holds
pub record IsHearer {K X Said Action : Type 0} (h : Hearer K X Said Action) : Type 0 where
  pub types : AreTypes h.types
  pub held_so : (x : X) (held : List ℕ) → h.held (h.holding x held) ≡ held
  pub held_same : (x : X) → h.holding x (h.held x) ≡ x
  pub held_last : (x : X) (a b : List ℕ) → h.holding (h.holding x a) b ≡ h.holding x b
  pub listens_so : (x : X) (held : List ℕ) → h.listens (h.holding x held) ≡ h.listens x
  pub emptied : (x : X) (said : Said) → h.held (h.behind x said) ≡ []

module _ {K X Said Action : Type 0} (h : Hearer K X Said Action) (is : IsHearer h) where
  abbrev done : List Action → X → Done X Action
  done actions x = record { actions = actions; session = x }

  -- ---- at rest

  -- an incomplete message leaves nothing to do
  pub idles : (x : X) → WaitsIn h.types (h.held x) → judged h x ≡ None
  idles x waits = ap (option_map (h.comes x)) (content_of-waits h.types is.types (h.held x) waits)

  -- where nothing is to be done, what is held is incomplete
  pub waits_at : (x : X) → judged h x ≡ None → WaitsIn h.types (h.held x)
  waits_at x none = (none_waits h.types is.types) (h.comes x) (h.held x) none

  pub rests : (x : X) → WaitsIn h.types (h.held x) → settled h x ≡ done [] x
  rests x waits = ap (done_by h x) (idles x waits)

  pub ready_empty : (x : X) → h.held x ≡ [] → IsReady h x
  ready_empty x none = record { can_hold = subst (IsHeldIn h.types) (sym none) (IsHeld_nil h.types is.types); holds_none = λ deaf. none }

  pub rests_ready : (x : X) → IsReady h x → WaitsIn h.types (h.held x) → IsAtRest h x
  rests_ready x ready waits = record { can_hold = ready.can_hold; nothing_to_do = idles x waits; holds_none = ready.holds_none }

  pub ready_at : (x : X) → IsAtRest h x → IsReady h x
  ready_at x rest = record { can_hold = rest.can_hold; holds_none = rest.holds_none }

  pub empty_waits : (x : X) → h.held x ≡ [] → WaitsIn h.types (h.held x)
  empty_waits x none = subst (WaitsIn h.types) (sym none) (nothing_waits h.types is.types)

  pub rests_empty : (x : X) → h.held x ≡ [] → IsAtRest h x
  rests_empty x none = rests_ready x (ready_empty x none) (empty_waits x none)

  pub settled_by : (x : X) (actions : List Action) (y : X) → Judges h x actions y → settled h x ≡ done actions y
  settled_by x actions y j =
      ap (λ o. done_by h x (option_map (h.comes x) o)) ((content_is h.types is.types) j.what (h.held x) j.is_held) ∙ ap₂ done (sym j.does) (sym j.leaves)

  pub judged_empty : (x : X) (actions : List Action) (y : X) → Judges h x actions y → h.held y ≡ []
  judged_empty x actions y j = ap h.held j.leaves ∙ is.emptied x (h.comes x j.what)

  -- ---- octets that are consumed

  module _ (x : X) (up : h.listens x ≡ true) where
    -- one octet is consumed
    takes_one : (held : List ℕ) (octet : ℕ) → by_octet h (h.holding x held) octet ≡ settled h (h.holding x (held ++ octet ∷ []))
    takes_one held octet =
        ap₂ (λ (b : Bool) (l : List ℕ). settled h (h.holding (h.holding x held) (with_octet b l octet))) (is.listens_so x held ∙ up) (is.held_so x held)
        ∙ ap (settled h) (is.held_last x held (held ++ octet ∷ []))

    -- the same for a whole front, where what is held is incomplete
    pub front_by_octets : (front : List ℕ) → WaitsIn h.types (h.held x) → IsHeldIn h.types (h.held x ++ front) → by_octets h x front ≡ settled h (h.holding x (h.held x ++ front))
    front_by_octets [] waits held_is =
        sym (rests x waits) ∙ ap (settled h) (sym (ap (h.holding x) (append-nil (h.held x)) ∙ is.held_same x))
    front_by_octets (octet ∷ front) waits held_is =
        let whole = h.held x ++ octet ∷ front in
        ap (λ (y : X). by_octets h y (octet ∷ front)) (sym (is.held_same x))
        ∙ (all_held h.types is.types) (λ held later. by_octets h (h.holding x held) later ≡ settled h (h.holding x whole)) whole
        (λ held octet joined.
        ap (λ (d : Done X Action). behind d.actions (by_octets h d.session [])) (takes_one held octet)
        ∙ ap (λ (actions : List Action). done actions (settled h (h.holding x (held ++ octet ∷ []))).session) (append-nil _)
        ∙ ap (λ (l : List ℕ). settled h (h.holding x l)) joined)
        (λ held octet next later more_waits goes.
        ap (λ (d : Done X Action). behind d.actions (by_octets h d.session (next ∷ later)))
        (takes_one held octet ∙ rests (h.holding x (held ++ octet ∷ [])) (subst (WaitsIn h.types) (sym (is.held_so x _)) more_waits)) ∙ goes)
        held_is (h.held x) octet front refl

  -- ---- octets that are not consumed

  pub drops_all : (x : X) → h.listens x ≡ false → WaitsIn h.types (h.held x) → (piece : List ℕ) → by_octets h x piece ≡ done [] x
  drops_all x deaf waits [] = refl
  drops_all x deaf waits (octet ∷ piece) =
      ap (λ (d : Done X Action). behind d.actions (by_octets h d.session piece))
      (ap (λ (b : Bool). settled h (h.holding x (with_octet b (h.held x) octet))) deaf ∙ ap (settled h) (is.held_same x) ∙ rests x waits)
      ∙ drops_all x deaf waits piece

  -- ---- octets in two parts

  pub in_parts : (x : X) (a b : List ℕ) → by_octets h x (a ++ b) ≡ behind (by_octets h x a).actions (by_octets h (by_octets h x a).session b)
  in_parts x [] b = refl
  in_parts x (octet ∷ a) b =
      let first : Done X Action = by_octet h x octet in
      let front : Done X Action = by_octets h first.session a in
      let back : Done X Action = by_octets h front.session b in
      ap (behind first.actions) (in_parts first.session a b)
      ∙ ap (λ (actions : List Action). done actions back.session) (sym (append_assoc first.actions front.actions back.actions))

  joins_parts : (x : X) (a b : List ℕ) (first rest actions : List Action) (m y : X) → by_octets h x a ≡ done first m → by_octets h m b ≡ done rest y
      → actions ≡ first ++ rest → by_octets h x (a ++ b) ≡ done actions y
  joins_parts x a b first rest actions m y front back order =
      in_parts x a b
      ∙ ap (λ (d : Done X Action). behind d.actions (by_octets h d.session b)) front
      ∙ ap (behind first) back
      ∙ ap (λ (acts : List Action). done acts y) (sym order)

  -- ---- one call: what is left to do before it is what it does, and what is left after it

  pub record Passes (x : X) (piece : List ℕ) (n : ℕ) (actions : List Action) (y : X) : Type 0 where
    pub within : n ≤ length piece
    pub ready : IsReady h y
    pub left : left_to_do h x piece ≡ behind actions (left_to_do h y (drop n piece))

  -- nothing is to be done but the actions on the octets
  pub waiting : (x : X) (rest : List ℕ) → WaitsIn h.types (h.held x) → left_to_do h x rest ≡ by_octets h x rest
  waiting x rest waits = ap (λ (d : Done X Action). behind d.actions (by_octets h d.session rest)) (rests x waits)

  pub took_none : (x : X) (piece : List ℕ) (n : ℕ) → n ≡ 0 → behind_feed h x piece n ≡ x
  took_none x piece n none = ap (behind_feed h x piece) none ∙ ap (h.holding x) (append-nil (h.held x)) ∙ is.held_same x

  feeds_none : (x : X) (piece : List ℕ) (n : ℕ) → IsReady h x → n ≡ 0 → Passes x piece n [] (behind_feed h x piece n)
  feeds_none x piece n ready none =
      subst (λ (y : X). Passes x piece n [] y) (sym (took_none x piece n none))
      (subst (λ (k : ℕ). Passes x piece k [] x) (sym none) (record { within = omega arith; ready = ready; left = refl }))

  feeds_some : (x : X) (piece : List ℕ) (n : ℕ) → IsReady h x → AreOctets piece → h.listens x ≡ true → TakesIn h.types (h.held x) piece n → WaitsIn h.types (h.held x)
      → Passes x piece n [] (behind_feed h x piece n)
  feeds_some x piece n ready octets up takes waits =
      let held = (IsHeld-fed h.types is.types) (h.held x) piece n ready.can_hold octets takes in record {
        within = takes.within;
        ready = record {
          can_hold = subst (IsHeldIn h.types) (sym (is.held_so x _)) held;
          holds_none = λ deaf. absurd ((not_both h.types is.types) (h.listens x) up (sym (is.listens_so x _) ∙ deaf));
        };
        left = waiting x piece waits
            ∙ ap (by_octets h x) (sym (take-append-drop n piece))
            ∙ in_parts x (take n piece) (drop n piece)
            ∙ ap (λ (d : Done X Action). behind d.actions (by_octets h d.session (drop n piece))) (front_by_octets x up (take n piece) waits held);
      }

  pub feeds_pass : (x : X) (piece : List ℕ) (n : ℕ) → IsReady h x → AreOctets piece → (up : Bool) → h.listens x ≡ up → CountsFedIn h.types up (h.held x) piece n
      → Passes x piece n [] (behind_feed h x piece n)
  feeds_pass x piece n ready octets false deaf counts = feeds_none x piece n ready counts
  feeds_pass x piece n ready octets true up counts =
      elim ((waits_or_stops h.types is.types) (h.held x) ready.can_hold) [
        | inl waits ↦ feeds_some x piece n ready octets up counts.0 waits
        | inr stops ↦ feeds_none x piece n ready ((none_more h.types is.types) (h.held x) piece n stops counts.0)
      ]

  pub fed_holds : (x : X) (piece : List ℕ) (n : ℕ) → AreOctets piece → IsHeldIn h.types (h.held x) → CountsFedIn h.types (h.listens x) (h.held x) piece n → IsHeldIn h.types (h.held (behind_feed h x piece n))
  fed_holds x piece n octets held fed = by (h.listens x) fed
    where
      by : (up : Bool) → CountsFedIn h.types up (h.held x) piece n → IsHeldIn h.types (h.held (behind_feed h x piece n))
      by true counts = subst (IsHeldIn h.types) (sym (is.held_so x _)) ((IsHeld-fed h.types is.types) (h.held x) piece n held octets counts.0)
      by false none = subst (λ (y : X). IsHeldIn h.types (h.held y)) (sym (took_none x piece n none)) held

  pub judges_left : (x : X) (actions : List Action) (y : X) (rest : List ℕ) → Judges h x actions y → left_to_do h x rest ≡ behind actions (left_to_do h y rest)
  judges_left x actions y rest j =
      ap (λ (e : Done X Action). behind e.actions (by_octets h e.session rest)) (settled_by x actions y j)
      ∙ ap (behind actions) (sym (waiting y rest (empty_waits y (judged_empty x actions y j))))

  -- the theorem of every call
  pub passes : (x : X) (piece : List ℕ) (n : ℕ) (found : Option (List Action)) (y : X) → IsReady h x → AreOctets piece → IsFedAndJudged h x piece n found y
      → Passes x piece n (given found) y
  passes x piece n None y ready octets call =
      subst (λ (z : X). Passes x piece n [] z) (sym call.next) (feeds_pass x piece n ready octets (h.listens x) refl call.fed.0)
  passes x piece n (Some actions) y ready octets call =
      let z = behind_feed h x piece n in
      let feeds = feeds_pass x piece n ready octets (h.listens x) refl call.fed.0 in
      record {
        within = feeds.within;
        ready = ready_empty y (judged_empty z actions y call.next);
        left = feeds.left ∙ judges_left z actions y (drop n piece) call.next;
      }

  -- octets were consumed, or what was held is judged
  pub lighter : (x y : X) (piece : List ℕ) (n : ℕ) → n ≤ length piece → 0 < n → weight h y (drop n piece) < weight h x piece
  lighter x y piece n within some = let left = length-drop n piece in let most = (one_at_most h.types is.types) (h.held y) in omega arith

  pub judges_lighter : (x : X) (piece : List ℕ) (n : ℕ) (actions : List Action) (y : X) → n ≤ length piece → Judges h (behind_feed h x piece n) actions y
      → weight h y (drop n piece) < weight h x piece
  judges_lighter x piece (suc n) actions y within j = lighter x y piece (suc n) within (omega arith)
  judges_lighter x piece zero actions y within j =
      let stops = subst (StopsIn h.types) (is.held_so x _ ∙ append-nil (h.held x)) ((content_stops h.types is.types) j.what _ j.is_held) in
      let long = Stops-wanted h.types is.types (h.held x) stops in
      let one = (one_there h.types is.types) (h.held x) (omega (arith, long.0)) in
      let gone : one_if_any (h.held y) ≡ 0 = ap one_if_any (judged_empty _ actions y j) in
      omega arith

  -- ---- calls, one after the other

  abbrev pub Settles : X → List ℕ → List Action → X → Type 0
  Settles x octets actions y = (by_octets h x octets ≡ done actions y) × IsAtRest h y

  abbrev pub Ends : X → List ℕ → List Action → X → Type 0
  Ends x piece actions y = (left_to_do h x piece ≡ done actions y) × IsAtRest h y

  stays : (x : X) (piece : List ℕ) (up : Bool) → h.listens x ≡ up → WaitsIn h.types (h.held x) → CountsFedIn h.types up (h.held x) piece 0 → by_octets h x piece ≡ done [] x
  stays x piece true up waits counts = ap (by_octets h x) ((none_left h.types is.types) piece (counts.1 waits))
  stays x piece false deaf waits counts = drops_all x deaf waits piece

  -- a call that consumes nothing and finds nothing, where what is held is incomplete
  pub call_ends : (x : X) (piece : List ℕ) (y : X) → IsReady h x → IsFedAndJudged h x piece 0 None y → WaitsIn h.types (h.held x) → Ends x piece [] y
  call_ends x piece y ready call waits =
      subst (λ (z : X). Ends x piece [] z) (sym (call.next ∙ took_none x piece 0 refl))
      (waiting x piece waits ∙ stays x piece (h.listens x) refl waits call.fed.0, rests_ready x ready waits)

  -- each call of the way feeds and judges; where it consumes nothing and finds nothing, what is held is incomplete
  pub record IsWay (way : Way X Action) : Type 0 where
    pub heard : (x : X) (piece : List ℕ) (n : ℕ) (found : Option (List Action)) (y : X) → way x piece n found y → IsFedAndJudged h x piece n found y
    pub ends : (x : X) (piece : List ℕ) (y : X) → IsReady h x → way x piece 0 None y → WaitsIn h.types (h.held x)

  pub record SomeCall (way : Way X Action) (x : X) (piece : List ℕ) : Type 0 where
    pub count : ℕ
    pub found : Option (List Action)
    pub session : X
    pub call : way x piece count found session

  module _ (way : Way X Action) (on : IsWay way) where
    calls_end : (calls : ℕ) (piece : List ℕ) (x : X) (actions : List Action) (y : X) → IsReady h x → AreOctets piece → Calls way calls piece x actions y → Ends x piece actions y
    calls_end zero piece x actions y ready octets c =
        subst (λ (acts : List Action). Ends x piece acts y) (sym c.1) (call_ends x piece y ready (on.heard x piece 0 None y c.0) (on.ends x piece y ready c.0))
    calls_end (suc n) piece x actions y ready octets c =
        let one = passes x piece c.count c.found c.between ready octets (on.heard x piece c.count c.found c.between c.call) in
        let later = calls_end n (drop c.count piece) c.between c.rest y one.ready (AreOctets-drop c.count piece octets) c.goes_on in
        (one.left ∙ ap (behind (given c.found)) later.0 ∙ ap (λ (acts : List Action). done acts y) (sym c.in_order), later.1)

    calls_settle : (calls : ℕ) (piece : List ℕ) (x : X) (actions : List Action) (y : X) → IsAtRest h x → AreOctets piece → Calls way calls piece x actions y → Settles x piece actions y
    calls_settle calls piece x actions y rest octets c =
        let ends = calls_end calls piece x actions y (ready_at x rest) octets c in
        (sym (waiting x piece (waits_at x rest.nothing_to_do)) ∙ ends.0, ends.1)

    -- the theorem on cutting
    pub runs_settle : (x : X) (runs : List Run) (actions : List Action) (y : X) → IsAtRest h x → AreOctets (all_octets runs) → Runs way runs x actions y
        → Settles x (all_octets runs) actions y
    runs_settle x [] actions y rest octets r = (ap₂ done (sym r.0) (sym r.1), subst (IsAtRest h) (sym r.1) rest)
    runs_settle x (run ∷ later) actions y rest octets r =
        let front = calls_settle run.calls run.octets x r.first r.between rest (AreOctets-front run.octets (all_octets later) octets) r.calls in
        let back = runs_settle r.between later r.rest y front.1 (AreOctets-back run.octets (all_octets later) octets) r.goes_on in
        (joins_parts x run.octets (all_octets later) r.first r.rest actions r.between y front.0 back.0 r.in_order, back.1)

    -- ---- any pieces can be received

    module _ (can : (x : X) (piece : List ℕ) → IsReady h x → AreOctets piece → SomeCall way x piece) where
      record SomeCalls (x : X) (piece : List ℕ) : Type 0 where
        calls : ℕ
        actions : List Action
        session : X
        heard : Calls way calls piece x actions session

      abbrev Continues : ℕ → Type 0
      Continues fuel = (x : X) (piece : List ℕ) → weight h x piece < fuel → IsReady h x → AreOctets piece → SomeCalls x piece

      module _ (fuel : ℕ) (continues : Continues fuel) (x : X) (piece : List ℕ) (lt : weight h x piece < suc fuel) (ready : IsReady h x) (octets : AreOctets piece) where
        call_on : (n : ℕ) (found : Option (List Action)) (y : X) → way x piece n found y → weight h y (drop n piece) < weight h x piece → SomeCalls x piece
        call_on n found y call less =
            let one = passes x piece n found y ready octets (on.heard x piece n found y call) in
            let later = continues y (drop n piece) (omega arith) one.ready (AreOctets-drop n piece octets) in record {
              calls = suc later.calls;
              actions = given found ++ later.actions;
              session = later.session;
              heard = record { count = n; found = found; between = y; call = call; rest = later.actions; goes_on = later.heard; in_order = refl };
            }

        calls_by : (n : ℕ) (found : Option (List Action)) (y : X) → way x piece n found y → SomeCalls x piece
        calls_by zero None y call = record { calls = 0; actions = []; session = y; heard = (call, refl) }
        calls_by (suc n) None y call =
            let one = passes x piece (suc n) None y ready octets (on.heard x piece (suc n) None y call) in
            call_on (suc n) None y call (lighter x y piece (suc n) one.within (omega arith))
        calls_by n (Some actions) y call =
            let heard = on.heard x piece n (Some actions) y call in
            let one = passes x piece n (Some actions) y ready octets heard in
            call_on n (Some actions) y call (judges_lighter x piece n actions y one.within heard.next)

      some_calls : (fuel : ℕ) → Continues fuel
      some_calls zero x piece lt ready octets = absurd (omega arith)
      some_calls (suc fuel) x piece lt ready octets =
          let c = can x piece ready octets in
          calls_by fuel (some_calls fuel) x piece lt ready octets c.count c.found c.session c.call

      pub can_be_heard : (x : X) (pieces : List (List ℕ)) → IsAtRest h x → AreOctets (flat_map (λ piece. piece) pieces) → CanBeHeard way x pieces
      can_be_heard x [] rest octets = record { runs = []; are = refl; actions = []; session = x; heard = (refl, refl) }
      can_be_heard x (piece ∷ pieces) rest octets =
          let front : AreOctets piece = AreOctets-front piece (flat_map (λ piece. piece) pieces) octets in
          let c : SomeCalls x piece = some_calls (suc (weight h x piece)) x piece (omega arith) (ready_at x rest) front in
          let settles = calls_settle c.calls piece x c.actions c.session rest front c.heard in
          let later = can_be_heard c.session pieces settles.1 (AreOctets-back piece (flat_map (λ piece. piece) pieces) octets) in
          record {
            runs = record { octets = piece; calls = c.calls } ∷ later.runs;
            are = ap (λ (ps : List (List ℕ)). piece ∷ ps) later.are;
            actions = c.actions ++ later.actions;
            session = later.session;
            heard = record { first = c.actions; between = c.session; calls = c.heard; rest = later.actions; goes_on = later.heard; in_order = refl };
          }

  -- the same octets, by two ways and in two cuttings
  pub runs_agree : (one other : Way X Action) → IsWay one → IsWay other → (x : X) (runs others : List Run) (actions second : List Action) (y z : X) → IsAtRest h x → AreOctets (all_octets runs)
      → all_octets runs ≡ all_octets others → Runs one runs x actions y → Runs other others x second z → (actions ≡ second) × (y ≡ z)
  runs_agree one other on also x runs others actions second y z rest octets same r s =
      let first = (runs_settle one on x runs actions y rest octets r).0 in
      let again = (runs_settle other also x others second z rest (subst AreOctets same octets) s).0 in
      let both : done actions y ≡ done second z = sym first ∙ ap (by_octets h x) same ∙ again in
      (ap (λ (d : Done X Action). d.actions) both, ap (λ (d : Done X Action). d.session) both)

  -- ---- a feed

  pub counts : (x : X) (piece : List ℕ) → IsReady h x → AreOctets piece → (up : Bool) → (n : ℕ) × CountsFedIn h.types up (h.held x) piece n
  counts x piece ready octets true =
      let t = (count_taken h.types is.types) (h.held x) piece ready.can_hold octets in (t.0, (t.1, takes_some h.types is.types (h.held x) piece t.0 t.1))
  counts x piece ready octets false = (0, refl)

  judges_whole : (x : X) → h.listens x ≡ true → StopsIn h.types (h.held x) → (actions : List Action) × (y : X) × Judges h x actions y
  judges_whole x up stops =
      let c = (content_found h.types is.types) (h.held x) stops in
      let said = h.comes x c.0 in
      (h.actions said, h.behind x said, record { up = up; what = c.0; is_held = c.1; does = refl; leaves = refl })

  listens_held : (x : X) (up : Bool) → h.listens x ≡ up → IsReady h x → StopsIn h.types (h.held x) → h.listens x ≡ true
  listens_held x true up ready stops = up
  listens_held x false deaf ready stops = absurd ((not_whole h.types is.types) (h.held x) (empty_waits x (ready.holds_none deaf)) stops)

  pub feed_is_way : IsWay (by_feed h)
  feed_is_way = record { heard = heard; ends = ends }
    where
      heard : (x : X) (piece : List ℕ) (n : ℕ) (found : Option (List Action)) (y : X) → by_feed h x piece n found y → IsFedAndJudged h x piece n found y
      heard x piece n None y call = record { fed = call.0; next = call.1.1 }
      heard x piece n (Some actions) y call = record { fed = call.0; next = call.1 }

      ends : (x : X) (piece : List ℕ) (y : X) → IsReady h x → by_feed h x piece 0 None y → WaitsIn h.types (h.held x)
      ends x piece y ready call = subst (λ (z : X). WaitsIn h.types (h.held z)) (took_none x piece 0 refl) call.1.0

  pub can_feed : (x : X) (piece : List ℕ) → IsReady h x → AreOctets piece → SomeCall (by_feed h) x piece
  can_feed x piece ready octets =
      let c = counts x piece ready octets (h.listens x) in
      let z = behind_feed h x piece c.0 in
      let p = feeds_pass x piece c.0 ready octets (h.listens x) refl c.1 in
      elim ((waits_or_stops h.types is.types) (h.held z) p.ready.can_hold) [
        | inl waits ↦ record { count = c.0; found = None; session = z; call = ((c.1, refl), (waits, refl)) }
        | inr stops ↦
            let j = judges_whole z (listens_held z (h.listens z) refl p.ready stops) stops in
            record { count = c.0; found = Some j.0; session = j.1; call = ((c.1, refl), j.2) }
      ]

  -- ---- a pull

  -- where it feeds, a feed is what a pull does
  pub to_feed : (x : X) (piece : List ℕ) (n : ℕ) (y : X) → (up : Bool) → h.listens x ≡ up → (up ≡ true → IsToFeedIn h.types (h.held x) piece) → IsFed h x piece n y → IsPulled h x piece n None y
  to_feed x piece n y true up waits fed = inr (record { up = up; to_feed = waits refl; fed = fed })
  to_feed x piece n y false deaf waits fed =
      let none : n ≡ 0 = subst (λ (b : Bool). CountsFedIn h.types b (h.held x) piece n) deaf fed.0 in
      inl (record { deaf = deaf; none = none; same = fed.1 ∙ took_none x piece n none })

  pub pulls_as_fed : (x : X) (piece : List ℕ) (n : ℕ) (found : Option (List Action)) (y : X) → IsPulled h x piece n found y → IsFedAndJudged h x piece n found y
  pulls_as_fed x piece n None y (inl p) = record {
    fed = (subst (λ (b : Bool). CountsFedIn h.types b (h.held x) piece n) (sym p.deaf) p.none, refl);
    next = p.same ∙ sym (took_none x piece n p.none);
  }
  pulls_as_fed x piece n None y (inr p) = record { fed = (p.fed.0, refl); next = p.fed.1 }
  pulls_as_fed x piece n (Some actions) y p =
      let up = sym (is.listens_so x _) ∙ p.next.up in record {
        fed = (subst (λ (b : Bool). CountsFedIn h.types b (h.held x) piece n) (sym up) (p.pulls.takes, takes_some h.types is.types (h.held x) piece n p.pulls.takes), refl);
        next = p.next;
      }

  pub pull_waits : (x : X) (piece : List ℕ) (n : ℕ) (y : X) → (h.listens x ≡ false → h.held x ≡ []) → IsPulled h x piece n None y → WaitsIn h.types (h.held x)
  pull_waits x piece n y holds_none (inl p) = empty_waits x (holds_none p.deaf)
  pull_waits x piece n y holds_none (inr p) = p.to_feed.waits

  pub pull_is_way : IsWay (IsPulled h)
  pull_is_way = record { heard = pulls_as_fed; ends = λ x piece y ready p. pull_waits x piece 0 y ready.holds_none p }

  -- from a piece without octets, what is held is judged
  pub judged_by_pull : (x : X) (n : ℕ) (actions : List Action) (y : X) → PullsNext h x [] n actions y → Judges h x actions y
  judged_by_pull x n actions y p =
      subst (λ (z : X). Judges h z actions y) (ap (λ (b : List ℕ). h.holding x (h.held x ++ b)) ((take_none h.types is.types) n) ∙ took_none x [] 0 refl) p.next

  pulls_fed : (x : X) (piece : List ℕ) → IsReady h x → AreOctets piece → (h.listens x ≡ true → IsToFeedIn h.types (h.held x) piece) → SomeCall (IsPulled h) x piece
  pulls_fed x piece ready octets waits =
      let c = counts x piece ready octets (h.listens x) in record {
        count = c.0;
        found = None;
        session = behind_feed h x piece c.0;
        call = to_feed x piece c.0 _ (h.listens x) refl waits (c.1, refl);
      }

  pulls_judged : (x : X) (piece : List ℕ) (n : ℕ) → h.listens x ≡ true → PullsIn h.types (h.held x) piece n → StopsIn h.types (h.held x ++ take n piece) → SomeCall (IsPulled h) x piece
  pulls_judged x piece n up pulls stops =
      let z = behind_feed h x piece n in
      let j = judges_whole z (is.listens_so x _ ∙ up) (subst (StopsIn h.types) (sym (is.held_so x _)) stops) in
      record { count = n; found = Some j.0; session = j.1; call = record { pulls = pulls; next = j.2 } }

  piece_waits : (piece : List ℕ) (n : ℕ) → TakesIn h.types [] piece n → WaitsIn h.types (take n piece) → WaitsIn h.types piece
  piece_waits piece n takes waits =
      elim takes.all_or_stops [
        | inl all ↦ subst (WaitsIn h.types) (take_all n piece (omega (arith, all))) waits
        | inr stops ↦ absurd ((not_whole h.types is.types) (take n piece) waits stops)
      ]

  pulls_front : (x : X) (piece : List ℕ) → IsReady h x → AreOctets piece → (up : Bool) → h.listens x ≡ up → h.held x ≡ [] → SomeCall (IsPulled h) x piece
  pulls_front x piece ready octets false deaf none = pulls_fed x piece ready octets (λ up. absurd ((not_both h.types is.types) (h.listens x) up deaf))
  pulls_front x piece ready octets true up none =
      let t = (count_taken h.types is.types) [] piece (IsHeld_nil h.types is.types) octets in
      elim ((waits_or_stops h.types is.types) (take t.0 piece) t.2) [
        | inl waits ↦ pulls_fed x piece ready octets (λ any. record { waits = empty_waits x none; no_front = inr (piece_waits piece t.0 t.1 waits) })
        | inr stops ↦
            pulls_judged x piece t.0 up (record { takes = subst (λ (b : List ℕ). TakesIn h.types b piece t.0) (sym none) t.1; one_place = inr none })
            (subst (λ (b : List ℕ). StopsIn h.types (b ++ take t.0 piece)) (sym none) stops)
      ]

  pulls_by : (x : X) (piece : List ℕ) → IsReady h x → AreOctets piece → (held : List ℕ) → h.held x ≡ held → WaitsIn h.types (h.held x) → SomeCall (IsPulled h) x piece
  pulls_by x piece ready octets [] none waits = pulls_front x piece ready octets (h.listens x) refl none
  pulls_by x piece ready octets (octet ∷ held) some waits =
      pulls_fed x piece ready octets (λ up. record { waits = waits; no_front = inl (subst (λ (b : List ℕ). 0 < length b) (sym some) (omega arith)) })

  pub can_pull : (x : X) (piece : List ℕ) → IsReady h x → AreOctets piece → SomeCall (IsPulled h) x piece
  can_pull x piece ready octets =
      elim ((waits_or_stops h.types is.types) (h.held x) ready.can_hold) [
        | inl waits ↦ pulls_by x piece ready octets (h.held x) refl waits
        | inr stops ↦
            pulls_judged x piece 0 (listens_held x (h.listens x) refl ready stops) (held_pulls h.types is.types piece (h.held x) stops)
            (subst (StopsIn h.types) (sym (append-nil (h.held x))) stops)
      ]
