use Rattle.bgp_machine.proofs.Prelude.{sym, subst, Kind, IsSaid}
use Rattle.bgp_machine.proofs.hearing.hear_in_open_sent.Goals as goal

pub returns-in-Open-clause-said : goal.returns-in-Open-clause-said
returns-in-Open-clause-said c x =
    subst (λ (k : Kind). IsSaid c.args.config.now x (record { kind = k; body = c.args.frame.body.now }) c.hear_open.result) (sym c.in-Open.is) (c.hear_open.ensures.said x)
