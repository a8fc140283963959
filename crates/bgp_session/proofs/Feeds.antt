-- A pair continues by pulls as by the octets that they consume.
use Rattle.bgp_session.proofs.Prelude.{◌≡◌, ℕ, zero, suc, ◌<◌, List, [], ◌∷◌, drop, Option, None, Some, refl, sym, ap, subst, ◌∙◌, arith, ArrayVec, AreOctets}
use Rattle.bgp_session.proofs.Prelude.{with_octet, done_by, Passes, passes, lighter, judges_lighter, call_ends, pull_waits, Action}
use Rattle.bgp_session.proofs.Prelude.{IsAtRest, Done, settled, by_octet, by_octets, IsPulled, IsReady, left_to_do, weight, Machine, holding, hearer, judged}
use Rattle.bgp_session.proofs.Prelude.{listens, Step, is_hearer, pulls_as_fed, Side, with_machine, fed_on, FeedsOn, Pair, all_acted}
use Rattle.bgp_session.proofs.Acts.{all_keeps, all_moves, acted_both}

-- ---- the settings of a session stay

done_settings : (x : Machine) (o : Option Step) → (done_by hearer x o).session.settings ≡ x.settings
done_settings x None = refl
done_settings x (Some step) = refl

pub octets_settings : (x : Machine) (octets : List ℕ) → (by_octets x octets).session.settings ≡ x.settings
octets_settings x [] = refl
octets_settings x (octet ∷ later) =
    let y : Machine = holding x (with_octet (listens x.standing.state) x.held octet) in
    octets_settings (by_octet x octet).session later ∙ done_settings y (judged y)

left_settings : (x : Machine) (rest : List ℕ) → (left_to_do x rest).session.settings ≡ x.settings
left_settings x rest = octets_settings (settled x).session rest ∙ done_settings x (judged x)

-- ---- the pair after a pull

module _ (side : Side) (p : Pair) (piece : List ℕ) where
  abbrev x : Machine
  x = p.this.session

  module _ (n : ℕ) (y : Machine) (actions : List Action) (q : Pair) (passes : Passes hearer is_hearer x piece n actions y) (acts : all_acted side (with_machine p y) actions ≡ q) where
    abbrev d : Done
    d = left_to_do y (drop n piece)

    session : q.this.session ≡ y
    session = ap (λ (r : Pair). r.this.session) (sym acts) ∙ all_keeps side (with_machine p y) actions

    goes_on : fed_on side p piece ≡ fed_on side q (drop n piece)
    goes_on =
        ap (λ (e : Done). all_acted side (with_machine p e.session) e.actions) passes.left
        ∙ acted_both side (with_machine p d.session) actions d.actions
        ∙ ap (λ (r : Pair). all_acted side r d.actions) (all_moves side (with_machine p y) d.session actions (left_settings y (drop n piece)) ∙ ap (λ (r : Pair). with_machine r d.session) acts)
        ∙ ap (λ (m : Machine). all_acted side (with_machine q (left_to_do m (drop n piece)).session) (left_to_do m (drop n piece)).actions) (sym session)

    feeds_on : weight y (drop n piece) < weight x piece → FeedsOn side p piece n q
    feeds_on lighter = record {
      within = passes.within;
      lighter = subst (λ (m : Machine). weight m (drop n piece) < weight x piece) (sym session) lighter;
      ready = subst IsReady (sym session) passes.ready;
      goes_on = goes_on;
    }

-- ---- what the code has of a pull

module _ (side : Side) (p : Pair) (piece : List ℕ) (n : ℕ) (y : Machine) (found : Option (ArrayVec Action)) (ready : IsReady p.this.session) (octets : AreOctets piece)
    (is_pulled : IsPulled p.this.session piece n found y) where
  abbrev old : Machine
  old = p.this.session

  found_so : (o : Option (ArrayVec Action)) → found ≡ o → IsPulled old piece n o y
  found_so o is = subst (λ (f : Option (ArrayVec Action)). IsPulled old piece n f y) is is_pulled

  pub acts_on : (actions : ArrayVec Action) (q : Pair) → found ≡ Some actions → all_acted side (with_machine p y) actions.items ≡ q → FeedsOn side p piece n q
  acts_on actions q is acts =
      let call = pulls_as_fed old piece n (Some actions.items) y (found_so (Some actions) is) in
      let pass = passes hearer is_hearer old piece n (Some actions.items) y ready octets call in
      feeds_on side p piece n y actions.items q pass acts (judges_lighter hearer is_hearer old piece n actions.items y pass.within call.next)

  not_zero : (k : ℕ) → (k ≡ 0 → ⊥) → 0 < k
  not_zero zero not = absurd (not refl)
  not_zero (suc k) not = omega arith

  pub takes_more : found ≡ None → (n ≡ 0 → ⊥) → FeedsOn side p piece n (with_machine p y)
  takes_more is some =
      let pass = passes hearer is_hearer old piece n None y ready octets (pulls_as_fed old piece n None y (found_so None is)) in
      feeds_on side p piece n y [] (with_machine p y) pass refl (lighter hearer is_hearer old y piece n pass.within (not_zero n some))

  pub ends_so : found ≡ None → n ≡ 0 → (fed_on side p piece ≡ with_machine p y) × IsAtRest y
  ends_so is none =
      let pulled = subst (λ (k : ℕ). IsPulled old piece k None y) none (found_so None is) in
      let ends = call_ends hearer is_hearer old piece y ready (pulls_as_fed old piece 0 None y pulled) (pull_waits hearer is_hearer old piece 0 y ready.holds_none pulled) in
      (ap (λ (e : Done). all_acted side (with_machine p e.session) e.actions) ends.0, ends.1)
