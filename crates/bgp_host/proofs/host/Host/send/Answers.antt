use Rattle.bgp_host.proofs.Prelude.{hosted}
use Rattle.bgp_host.proofs.Turns.{sent_one}
use Rattle.bgp_host.proofs.host.Host.send.Goals as goal

pub returns-clause-ok : goal.returns-clause-ok
returns-clause-ok g c =
    sent_one c.args.self.now.session c.args.update.now c.in_ok-actions.actions.items c.new-octets.result.items c.send.new.out.items c.deref.result.now
    (g.C.Connection.calls c.args.self.now.connection) (g.C.Connection.calls c.put-link.new.connection) (g.K.Clock.ticks c.args.self.now.clock) (g.O.Observer.notices c.args.self.now.observer)
    (record { calls = g.C.Connection.calls c.act-link.new.self.connection; ticks = g.K.Clock.ticks c.act-link.new.self.clock; notices = g.O.Observer.notices c.act-link.new.self.observer }) c.put-link.result c.act-link.result c.act-link.new.self.session (hosted c.follow.new.self.session (g.C.Connection.calls c.follow.new.self.connection) (g.K.Clock.ticks c.follow.new.self.clock) (g.O.Observer.notices c.follow.new.self.observer))
    c.new-octets.ensures.items c.deref.ensures.value c.in_ok-actions.ensures.ok c.put-link.ensures c.act-link.ensures.acts c.act-link.ensures.same c.follow.ensures
