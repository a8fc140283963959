use Rattle.bgp_machine.proofs.Hearings.{verdict_said}
use Rattle.bgp_machine.proofs.hearing.hear_in_established.Goals as goal

pub returns-in-Update-clause-said : goal.returns-in-Update-clause-said
returns-in-Update-clause-said c s x has = verdict_said s x (record { kind = c.args.frame.kind; body = c.args.frame.body.now }) c.args.context.now c.hear_update.result has c.hear_update.ensures.said
