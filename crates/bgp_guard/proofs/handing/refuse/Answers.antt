use Rattle.bgp_guard.proofs.Prelude.{ap, sym, ◌∙◌, WideKind, answered, answers_to, sight_with}
use Rattle.bgp_wide.specs.Prelude.{of_kind}
use Rattle.bgp_guard.proofs.handing.refuse.Goals as goal

pub returns-in-Base-clause-after : goal.returns-in-Base-clause-after
returns-in-Base-clause-after c =
    λ h k.
    let s = sight_with h k c.args.stage.now c.args.this.now c.args.other.now in
    let agreed = c.args.agreed.now in
    c.refuse_base.ensures.after h k
    ∙ sym (ap (λ (kind : WideKind). answered s (answers_to (of_kind agreed.context agreed.refresh kind c.args.frame.body.now))) c.in-Base.is)

pub returns-in-Refresh-clause-after : goal.returns-in-Refresh-clause-after
returns-in-Refresh-clause-after c =
    λ h k.
    let s = sight_with h k c.args.stage.now c.args.this.now c.args.other.now in
    let agreed = c.args.agreed.now in
    c.refuse_refresh.ensures.after h k
    ∙ sym (ap (λ (kind : WideKind). answered s (answers_to (of_kind agreed.context agreed.refresh kind c.args.frame.body.now))) c.in-Refresh.is)
