use Rattle.bgp_guard.proofs.Prelude.{◌≡◌, [], inl, ap, sym, subst, ◌∙◌, notification_of_view, message_in, Outcome, Answers, answered, reset_by}
use Rattle.bgp_guard.proofs.Prelude.{reject_both, IsAnswered, answers_to, sight_with}
use Rattle.bgp_msg.specs.Prelude.{out_of}
use Rattle.bgp_guard.proofs.Sights.{no_reset, over}
use Rattle.bgp_guard.proofs.handing.refuse_base.Goals as goal

pub returns-in-Reset-clause-after : goal.returns-in-Reset-clause-after
returns-in-Reset-clause-after c =
    λ h k. c.reset.ensures.after h k
    ∙ ap (λ (o : Outcome). answered (sight_with h k c.args.stage.now c.args.this.now c.args.other.now) (answers_to (inl o))) c.in-Reset.ensures

pub returns-in-Reset-clause-over : goal.returns-in-Reset-clause-over
returns-in-Reset-clause-over c =
    over (sight_with [] [] c.args.stage.now c.args.this.now c.args.other.now) (sight_with [] [] c.reset.new.stage c.reset.new.this c.reset.new.other)
    (reset_by (notification_of_view c.in-Reset.why)) (c.reset.ensures.after [] [])

pub returns-in_default : goal.returns-in_default
returns-in_default c =
    let same : answers_to (inl (out_of c.args.ctx.now (message_in c.args.frame))) ≡ reject_both = ap (λ (o : Outcome). answers_to (inl o)) (sym c.view_frame.ensures) ∙ no_reset c.view_frame.result c.in_default.not-Reset in
    record {
      after = λ h k. c.reject.ensures.after h k ∙ ap (λ (a : Answers). answered (sight_with h k c.args.stage.now c.args.this.now c.args.other.now) a) (sym same);
      told = subst (λ (a : Answers). IsAnswered a.this c.reject.result) (sym same) c.reject.ensures.told;
      over = over (sight_with [] [] c.args.stage.now c.args.this.now c.args.other.now) (sight_with [] [] c.reject.new.stage c.reject.new.this c.reject.new.other)
          reject_both (c.reject.ensures.after [] []);
    }
