use Rattle.bgp_host.proofs.Prelude.{[], Same, Told, hosted}
use Rattle.bgp_host.proofs.Turns.{next_turn}
use Rattle.bgp_host.proofs.host.Host.tell.Goals as goal

pub returns : goal.returns
returns g c =
    next_turn Same (Told c.args.event) (hosted c.args.self.now.session (g.C.Connection.calls c.args.self.now.connection) (g.K.Clock.ticks c.args.self.now.clock) (g.O.Observer.notices c.args.self.now.observer))
    (hosted c.tell_once-link.new.self.session (g.C.Connection.calls c.tell_once-link.new.self.connection) (g.K.Clock.ticks c.tell_once-link.new.self.clock) (g.O.Observer.notices c.tell_once-link.new.self.observer)) (hosted c.follow.new.self.session (g.C.Connection.calls c.follow.new.self.connection) (g.K.Clock.ticks c.follow.new.self.clock) (g.O.Observer.notices c.follow.new.self.observer)) c.tell_once-link.result Same [] tt
    c.tell_once-link.ensures c.follow.ensures
