use Rattle.bgp_session.proofs.Prelude.{sym, ap, ◌∙◌, Pair, pair, all_acted}
use Rattle.bgp_session.proofs.acting.act_all.Goals as goal

pub actions-init : goal.actions-init
actions-init c =
    ap (all_acted c.args.side (pair c.args.this.now c.args.other.now c.args.notes.now)) (sym c.into_iter-action-iterator.ensures.into_iter_gives.0)

pub actions-preserved : goal.actions-preserved
actions-preserved c =
    c.actions.invariant
    ∙ ap (all_acted c.args.side (pair c.actions.this c.actions.other c.actions.notes)) c.in-Some.ensures.steps
    ∙ ap (λ (p : Pair). all_acted c.args.side p c.next.new.self) c.in_ok-act.ensures

pub returns : goal.returns
returns c =
    c.actions.invariant
    ∙ ap (all_acted c.args.side (pair c.actions.this c.actions.other c.actions.notes)) c.in-None.ensures.steps.0
