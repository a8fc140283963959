-- The calls of a wire, once all moves are played.
use Rattle.bgp_session.proofs.Prelude.{◌≡◌, ℕ, ◌≤◌, Bool, true, List, [], ◌++◌, length, take, Result, Ok, Err, sym, ap, subst, ◌∙◌, IfOk, append-nil}
use Rattle.bgp_session.proofs.Prelude.{take_all, Settings, Move, Report, Plays, report_of, calls_behind, sights_behind, Sight, observed, Call, Grows, Trace}
use Rattle.bgp_session.proofs.Prelude.{World, begins, Turn, calls_in, sights_in, Ran, all_moved}
use Rattle.bgp_session.proofs.Plays.{wired}

module _ {S : Type 0} (honest : Bool) (after : S → Sight → S) (a b : Settings) (moves : List Move) (w : World) (start answers : List Bool) (none : start ≡ []) (trace_old trace_new : Trace S) (i : ℕ)
    (all : length moves ≤ i) (played : Plays (wired honest after start answers trace_old trace_new) (all_moved (take i moves) (begins a b)) w) (is : honest ≡ true) where
  given_so : answers ≡ played.given ++ []
  given_so = played.answers.told ∙ ap (λ (l : List Bool). l ++ played.given) none ∙ sym (append-nil played.given)

  turns_so : (all_moved moves (begins a b) answers).turns ≡ played.turns
  turns_so =
      ap (λ (l : List Bool). (all_moved moves (begins a b) l).turns) given_so
      ∙ ap (λ (ms : List Move). (all_moved ms (begins a b) (played.given ++ [])).turns) (sym (take_all i moves all))
      ∙ ap (λ (r : Ran). r.turns) (played.goes_on is [])
      ∙ append-nil played.turns

  pub all_handed : {E : Type 0} (r : Result Report E) → IfOk r (λ report. report ≡ report_of w answers) → IfOk r (λ report. Grows trace_old.calls trace_new.calls (calls_behind a b moves report.answers))
  all_handed (Ok report) reports =
      let same : calls_behind a b moves report.answers ≡ calls_in played.turns = ap (λ (x : Report). calls_behind a b moves x.answers) reports ∙ ap calls_in turns_so in
      subst (λ (calls : List Call). Grows trace_old.calls trace_new.calls calls) (sym same) played.answers.kept
  all_handed (Err e) reports = tt

  pub all_observed : {E : Type 0} (r : Result Report E) → IfOk r (λ report. report ≡ report_of w answers)
      → IfOk r (λ report. trace_new.seen ≡ observed after trace_old.seen (sights_behind a b moves report.answers))
  all_observed (Ok report) reports =
      played.observes is
      ∙ ap (λ (turns : List Turn). observed after trace_old.seen (sights_in turns)) (sym turns_so)
      ∙ ap (λ (x : Report). observed after trace_old.seen (sights_behind a b moves x.answers)) (sym reports)
  all_observed (Err e) reports = tt
