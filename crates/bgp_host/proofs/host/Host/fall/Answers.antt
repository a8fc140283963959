use Rattle.bgp_host.proofs.Prelude.{refl, subst, sym, [], Link, Same, Down, Told, Hosted, hosted, RunsFrom, Failed}
use Rattle.bgp_host.proofs.Turns.{last_turn}
use Rattle.bgp_host.proofs.Quiet.{failed_ends, left_as_it_is}
use Rattle.bgp_host.proofs.host.Host.fall.Goals as goal

pub returns-in-Down : goal.returns-in-Down
returns-in-Down g c =
    let old : Hosted = (hosted c.args.self.now.session (g.C.Connection.calls c.args.self.now.connection) (g.K.Clock.ticks c.args.self.now.clock) (g.O.Observer.notices c.args.self.now.observer)) in
    let new : Hosted = (hosted c.tell_once.new.self.session (g.C.Connection.calls c.tell_once.new.self.connection) (g.K.Clock.ticks c.tell_once.new.self.clock) (g.O.Observer.notices c.tell_once.new.self.observer)) in
    subst (λ (l : Link). RunsFrom l old [] Same new) (sym c.in-Down.is)
    (subst (λ (l : Link). RunsFrom Down old [] l new) (failed_ends old new c.tell_once.result c.tell_once.ensures)
    (last_turn Down (Told Failed) old new c.tell_once.result refl c.tell_once.ensures))

pub returns-in-Same : goal.returns-in-Same
returns-in-Same g c = left_as_it_is c.args.link (hosted c.args.self.now.session (g.C.Connection.calls c.args.self.now.connection) (g.K.Clock.ticks c.args.self.now.clock) (g.O.Observer.notices c.args.self.now.observer)) c.in-Same.is c.requires
