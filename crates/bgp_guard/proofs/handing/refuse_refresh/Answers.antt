use Rattle.bgp_guard.proofs.Prelude.{Result, [], inr, ap, ◌∙◌, Notification, notification_of_view, answered, answers_to, reset_by, reject_both, sight_with}
use Rattle.bgp_refresh.specs.declared.fault.RefreshFault.{RefreshFault}
use Rattle.bgp_refresh.specs.Prelude.{Refresh}
use Rattle.bgp_wide.specs.Outcome as outcome
use Rattle.bgp_guard.proofs.Sights.{over}
use Rattle.bgp_guard.proofs.handing.refuse_refresh.Goals as goal

pub returns-in-Err-clause-after : goal.returns-in-Err-clause-after
returns-in-Err-clause-after c =
    λ h k.
    let s = sight_with h k c.args.stage.now c.args.this.now c.args.other.now in
    c.reset.ensures.after h k
    ∙ ap (λ (n : Notification). answered s (reset_by n)) (c.refresh_answer.ensures c.args.body.now c.requires.framed)
    ∙ ap (λ (r : Result Refresh RefreshFault). answered s (answers_to (inr (outcome.answered c.args.body.now r)))) c.in-Err.ensures

pub returns-in-Err-clause-over : goal.returns-in-Err-clause-over
returns-in-Err-clause-over c =
    over (sight_with [] [] c.args.stage.now c.args.this.now c.args.other.now) (sight_with [] [] c.reset.new.stage c.reset.new.this c.reset.new.other)
    (reset_by (notification_of_view c.refresh_answer.result)) (c.reset.ensures.after [] [])

pub returns-in-Ok-clause-after : goal.returns-in-Ok-clause-after
returns-in-Ok-clause-after c =
    λ h k.
    let s = sight_with h k c.args.stage.now c.args.this.now c.args.other.now in
    c.reject.ensures.after h k
    ∙ ap (λ (r : Result Refresh RefreshFault). answered s (answers_to (inr (outcome.answered c.args.body.now r)))) c.in-Ok.ensures

pub returns-in-Ok-clause-over : goal.returns-in-Ok-clause-over
returns-in-Ok-clause-over c =
    over (sight_with [] [] c.args.stage.now c.args.this.now c.args.other.now) (sight_with [] [] c.reject.new.stage c.reject.new.this c.reject.new.other)
    reject_both (c.reject.ensures.after [] [])
