use Rattle.bgp_host.proofs.Prelude.{refl, subst, sym, [], Link, Up, Told, Hosted, hosted, RunsFrom, Connected}
use Rattle.bgp_host.proofs.Turns.{last_turn}
use Rattle.bgp_host.proofs.Quiet.{connected_ends}
use Rattle.bgp_host.proofs.host.Host.rise.Goals as goal

pub returns-in-Up-clause-runs : goal.returns-in-Up-clause-runs
returns-in-Up-clause-runs g c =
    let old : Hosted = (hosted c.args.self.now.session (g.C.Connection.calls c.args.self.now.connection) (g.K.Clock.ticks c.args.self.now.clock) (g.O.Observer.notices c.args.self.now.observer)) in
    let new : Hosted = (hosted c.tell_once.new.self.session (g.C.Connection.calls c.tell_once.new.self.connection) (g.K.Clock.ticks c.tell_once.new.self.clock) (g.O.Observer.notices c.tell_once.new.self.observer)) in
    subst (λ (l : Link). RunsFrom l old [] c.tell_once.result new) (sym c.in-Up.is) (last_turn Up (Told Connected) old new c.tell_once.result refl c.tell_once.ensures)

pub returns-in-Up-clause-not_up : goal.returns-in-Up-clause-not_up
returns-in-Up-clause-not_up g c =
    let old : Hosted = (hosted c.args.self.now.session (g.C.Connection.calls c.args.self.now.connection) (g.K.Clock.ticks c.args.self.now.clock) (g.O.Observer.notices c.args.self.now.observer)) in
    let new : Hosted = (hosted c.tell_once.new.self.session (g.C.Connection.calls c.tell_once.new.self.connection) (g.K.Clock.ticks c.tell_once.new.self.clock) (g.O.Observer.notices c.tell_once.new.self.observer)) in
    connected_ends old new c.tell_once.result c.tell_once.ensures
