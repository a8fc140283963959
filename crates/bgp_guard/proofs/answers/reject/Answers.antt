use Rattle.bgp_guard.proofs.Prelude.{ap₂, ◌∙◌, Notification, answered, sight_with}
use Rattle.bgp_guard.proofs.answers.reject.Goals as goal

pub returns-clause-after : goal.returns-clause-after
returns-clause-after c =
    λ h k. c.answer.ensures.after h k
    ∙ ap₂ (λ (a b : Notification). answered (sight_with h k c.args.stage.now c.args.this.now c.args.other.now) (record { this = a; other = b }))
    (c.view.ensures ∙ c.rejected-why.ensures) c.rejected-why.ensures
