use Rattle.bgp_engine.proofs.Prelude.{sym, ap, ◌∙◌, update_value, notes_value, outcome_value}
use Rattle.bgp_msg.specs.declared.outcome_view.OutcomeView.{OutcomeView}
use Rattle.bgp_engine.proofs.Narrows.{taken_told}
use Rattle.bgp_engine.proofs.narrowing.put_told.Goals as goal

pub put_view-requires : goal.put_view-requires
put_view-requires c =
    taken_told c.args.ctx.now c.requires.wide (update_value c.in-Update.view.now) (notes_value c.in-Update.view.now) c.args.frame.kind c.args.frame.body.now c.are_octets.ensures c.requires.long
    (sym c.view_frame.ensures ∙ ap (λ (v : OutcomeView). outcome_value v) c.in-Update.is)
