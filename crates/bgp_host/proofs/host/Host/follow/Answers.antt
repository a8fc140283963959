use Rattle.bgp_host.proofs.Prelude.{[], Same, hosted}
use Rattle.bgp_host.proofs.Turns.{runs_both}
use Rattle.bgp_host.proofs.host.Host.follow.Goals as goal

pub returns : goal.returns
returns g c =
    runs_both c.args.link c.rise-link.result Same (hosted c.args.self.now.session (g.C.Connection.calls c.args.self.now.connection) (g.K.Clock.ticks c.args.self.now.clock) (g.O.Observer.notices c.args.self.now.observer))
    (hosted c.rise-link.new.self.session (g.C.Connection.calls c.rise-link.new.self.connection) (g.K.Clock.ticks c.rise-link.new.self.clock) (g.O.Observer.notices c.rise-link.new.self.observer)) (hosted c.fall.new.self.session (g.C.Connection.calls c.fall.new.self.connection) (g.K.Clock.ticks c.fall.new.self.clock) (g.O.Observer.notices c.fall.new.self.observer)) [] []
    c.rise-link.ensures.runs c.fall.ensures
