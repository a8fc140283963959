-- The octets that a pull takes, and those it leaves.
use Rattle.bgp_host.proofs.Prelude.{◌≡◌, ℕ, zero, suc, ◌<◌, ◌≤◌, Bool, true, false, nat_lt, List, [], ◌∷◌, length, drop, None, Some, refl, sym, ap, subst}
use Rattle.bgp_host.proofs.Prelude.{◌∙◌, arith, inl, inr, if◌then◌else◌, ArrayVec, Action, Connected, Failed, IsPulled, where_found, Machine, own_octets}
use Rattle.bgp_host.proofs.Prelude.{kept, hearer, listens, weight, happens, State, Link, Same, Up, Down, Deed, actions_of, link_behind, Records, Cause, Told}
use Rattle.bgp_host.proofs.Prelude.{Heard, Gives, Turn, link_after, Goes, causes_of, Hosted, Runs, RunsFrom, Acts, PullsOn, PullsNone, PullsOnce, taken_by}
use Rattle.bgp_frame.specs.Prelude.{one_if_any}
use Rattle.bgp_frame.proofs.Hearings.{counts_within, judges_lighter, lighter, none_left, not_both, taken_up}
use Rattle.bgp_machine.specs.declared.event.Event.{Event}
use Rattle.bgp_machine.proofs.Cuttings.{is_hearer, pulls_as_fed}
use Rattle.bgp_host.proofs.Records.{grows_none}
use Rattle.bgp_host.proofs.Turns.{at, one_turn, next_turn}
use Rattle.bgp_frame.specs.Kind.{plain}
use Rattle.bgp_frame.specs.steps.AreTypes.{plain-are}

-- ---- no octets arrive while an event is due

kept_less : (b : Bool) (held : List ℕ) → one_if_any (kept b held) ≤ one_if_any held
kept_less true held = omega arith
kept_less false [] = omega arith
kept_less false (octet ∷ held) = omega arith

told_less : (x : Machine) (cause : Cause) (event : Event) (actions : List Action) (y : Machine) → cause ≡ Told event → Gives x cause actions y
    → one_if_any y.held ≤ one_if_any x.held
told_less x cause event actions y is gives =
    let told : Gives x (Told event) actions y = subst (λ (c : Cause). Gives x c actions y) is gives in
    subst (λ (m : Machine). one_if_any m.held ≤ one_if_any x.held) (sym told.1) (kept_less (listens (happens x.standing event).next.state) x.held)

pub held_after : (link last : Link) (turns : List Turn) (x y : Machine) → Goes link x turns last y → causes_of link turns ≡ [] → one_if_any y.held ≤ one_if_any x.held
held_after link last [] x y goes none = subst (λ (m : Machine). one_if_any m.held ≤ one_if_any x.held) (sym goes.1) (omega arith)
held_after Same last (t ∷ turns) x y goes none = absurd (let not : t.cause ∷ causes_of (link_after t) turns ≡ [] = none in cc)
held_after Up last (t ∷ turns) x y goes none =
    let first = told_less x t.cause Connected (actions_of t.deeds) goes.between goes.is_due goes.is_turn.gives in
    let later = held_after (link_after t) last turns goes.between y goes.goes_on none in
    omega arith
held_after Down last (t ∷ turns) x y goes none =
    let first = told_less x t.cause Failed (actions_of t.deeds) goes.between goes.is_due goes.is_turn.gives in
    let later = held_after (link_after t) last turns goes.between y goes.goes_on none in
    omega arith

-- ---- a pull

-- a pull without octets or outcome means that the piece is empty or the session doesn't listen
rests_all : (x : Machine) (piece : List ℕ) (m : Machine) → IsPulled x piece 0 None m → listens m.standing.state ≡ true → piece ≡ []
rests_all x piece m (inl p) up = absurd (not_both plain plain-are (listens x.standing.state) (ap (λ (z : Machine). listens z.standing.state) (sym p.same) ∙ up) p.deaf)
rests_all x piece m (inr p) up =
    let counts = taken_up plain plain-are (listens x.standing.state) x.held piece 0 p.up p.fed.0 in
    none_left plain plain-are piece (counts.1 p.to_feed.waits)

-- ---- what follows a pull

-- nothing was due, and the session wasn't called
none_called : (turns : List Turn) (last : Link) (x y : Machine) → Goes Same x turns last y → causes_of Same turns ≡ [] → y ≡ x
none_called [] last x y goes none = goes.1
none_called (t ∷ turns) last x y goes none = absurd (let not : t.cause ∷ causes_of (link_after t) turns ≡ [] = none in cc)

no_deeds : (deeds : List Deed) → actions_of deeds ≡ [] → link_behind Same deeds ≡ Same
no_deeds [] none = refl
no_deeds (d ∷ deeds) none = absurd (let not : d.action ∷ actions_of deeds ≡ [] = none in cc)

no_actions : (own : List ℕ) (actions : List Action) (state : State) (old new : Records) (link : Link) → actions ≡ [] → Acts own Same actions state old new link → link ≡ Same
no_actions own actions state old new link none acts = acts.carried.became ∙ no_deeds acts.carried.deeds (acts.carried.in_order ∙ none)

module _ (x : Machine) (r0 : Records) (piece : List ℕ) (actions : ArrayVec Action) (m : Machine) (r1 : Records) (link : Link) (new : Hosted)
    (acts : Acts (own_octets m.settings) Same actions.items m.standing.state r0 r1 link) (follows : RunsFrom link (at m r1) [] Same new) where
  called : (n : ℕ) → Gives x (Heard piece n) actions.items m → Runs (at x r0) (Heard piece n ∷ []) new
  called n gives =
      next_turn Same (Heard piece n) (at x r0) (at m r1) new link Same [] tt
      (one_turn (Heard piece n) x m actions.items r0.calls r0 r1 link gives (grows_none r0.calls) acts) follows

  goes_on : (n : ℕ) → Gives x (Heard piece n) actions.items m → n ≤ length piece → weight m (drop n piece) < weight x piece → PullsOn (at x r0) piece n new
  goes_on n gives within less = record {
    within = within;
    lighter = let no_more = held_after link Same follows.turns m new.session follows.goes follows.are_causes in omega arith;
    runs = called n gives;
  }

  ends : Gives x (Heard piece 0) actions.items m → actions.items ≡ [] → IsPulled x piece 0 None m → PullsNone (at x r0) piece new
  ends gives none pulled =
      let same : new.session ≡ m = none_called follows.turns Same m new.session
      (subst (λ (l : Link). Goes l m follows.turns Same new.session) (no_actions (own_octets m.settings) actions.items m.standing.state r0 r1 link none acts) follows.goes)
      (subst (λ (l : Link). causes_of l follows.turns ≡ []) (no_actions (own_octets m.settings) actions.items m.standing.state r0 r1 link none acts) follows.are_causes) in
      record {
        runs = called 0 gives;
        all = λ up. rests_all x piece m pulled (ap (λ (z : Machine). listens z.standing.state) (sym same) ∙ up);
      }

  pub pulled_once : (n : ℕ) (found : Bool) → IsPulled x piece n (where_found found actions) m → (found ≡ false → actions.items ≡ [])
      → PullsOnce (at x r0) piece new (taken_by n found)
  pulled_once n true pulled quiet =
      let within = pulled.pulls.takes.within in
      goes_on n (record { found = Some actions; pulled = pulled; does = refl }) within (judges_lighter hearer is_hearer x piece n actions.items m within pulled.next)
  pulled_once zero false pulled quiet =
      ends (record { found = None; pulled = pulled; does = quiet refl }) (quiet refl) pulled
  pulled_once (suc n) false pulled quiet =
      let some : nat_lt 0 (suc n) ≡ true = grind arith in
      let within = counts_within plain plain-are (listens x.standing.state) x.held piece (suc n) (pulls_as_fed x piece (suc n) None m pulled).fed.0 in
      subst (λ (b : Bool). PullsOnce (at x r0) piece new (if b then Some (suc n) else None)) (sym some)
      (goes_on (suc n) (record { found = None; pulled = pulled; does = quiet refl }) within (lighter hearer is_hearer x m piece (suc n) within (omega arith)))
