use Rattle.bgp_host.proofs.Prelude.{subst, sym, Machine, Records, Told, OneTurn}
use Rattle.bgp_host.proofs.Records.{grows_none}
use Rattle.bgp_host.proofs.Turns.{at, one_turn}
use Rattle.bgp_host.proofs.host.Host.tell_once.Goals as goal

pub returns : goal.returns
returns g c =
    let r0 : Records = record { calls = g.C.Connection.calls c.args.self.now.connection; ticks = g.K.Clock.ticks c.args.self.now.clock; notices = g.O.Observer.notices c.args.self.now.observer } in
    let r1 : Records = record { calls = g.C.Connection.calls c.act.new.self.connection; ticks = g.K.Clock.ticks c.act.new.self.clock; notices = g.O.Observer.notices c.act.new.self.observer } in
    subst (λ (m : Machine). OneTurn (Told c.args.event) (at c.args.self.now.session r0) (at m r1) c.act.result) (sym c.act.ensures.same)
    (one_turn (Told c.args.event) c.args.self.now.session c.event-actions.new.self c.event-actions.result.items r0.calls r0 r1 c.act.result
    (c.event-actions.ensures.actions, c.event-actions.ensures.after) (grows_none r0.calls) c.act.ensures.acts)
