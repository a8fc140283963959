-- The report of a schedule keeps to the laws of its world.
use Rattle.bgp_session.proofs.Prelude.{◌≡◌, Bool, List, [], ◌++◌, Result, Ok, Err, sym, ap, subst, ◌∙◌, IfOk, All, append-nil, Settings, Move, Report, Round}
use Rattle.bgp_session.proofs.Prelude.{CanBeSet, HaveSentRanges, world_behind, RoundHasReasons, both_wide, HearsFronts, IsReported, Ran, rounds_of}
use Rattle.bgp_session.proofs.Outcomes.{reasons, fronts}

module _ (a b : Settings) (moves : List Move) (report : Report) (can_a : CanBeSet a) (can_b : CanBeSet b) (ranges : HaveSentRanges a b moves report.answers)
    (r : IsReported a b moves report) where
  -- the rounds of the world after the moves, for the report's own answers
  sent_so : HaveSentRanges a b moves (report.answers ++ [])
  sent_so = subst (λ (answers : List Bool). HaveSentRanges a b moves answers) (sym (append-nil report.answers)) ranges

  rounds_are : rounds_of (world_behind a b moves (report.answers ++ [])) ≡ report.rounds
  rounds_are = ap (λ (x : Ran). rounds_of x.world) (r.moved_so []) ∙ sym (ap (λ (x : Report). x.rounds) r.reports)

  pub reported_reasons : All (RoundHasReasons a b moves) report.rounds
  reported_reasons = subst (λ (rounds : List Round). All (RoundHasReasons a b moves) rounds) rounds_are (reasons a b moves (report.answers ++ []) can_a can_b sent_so)

  pub reported_fronts : All (HearsFronts (both_wide a b)) report.rounds
  reported_fronts = subst (λ (rounds : List Round). All (HearsFronts (both_wide a b)) rounds) rounds_are (fronts a b moves (report.answers ++ []) can_a can_b sent_so)

-- where a call succeeds, its value is so
pub when_ok : {T E : Type 0} {P Q R : T → Type 0} → ((v : T) → P v → Q v → R v) → (r : Result T E) → IfOk r P → IfOk r Q → IfOk r R
when_ok f (Ok v) p q = f v p q
when_ok f (Err e) p q = p
