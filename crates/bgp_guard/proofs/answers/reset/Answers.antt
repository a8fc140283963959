use Rattle.bgp_guard.proofs.Prelude.{ap, ◌∙◌, Notification, notification_of_view, answered, sight_with}
use Rattle.bgp_guard.proofs.answers.reset.Goals as goal

pub returns-clause-after : goal.returns-clause-after
returns-clause-after c =
    λ h k. c.answer.ensures.after h k
    ∙ ap (λ (b : Notification). answered (sight_with h k c.args.stage.now c.args.this.now c.args.other.now) (record { this = notification_of_view c.args.why; other = b }))
    c.reset_over.ensures
