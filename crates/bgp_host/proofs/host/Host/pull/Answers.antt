use Rattle.bgp_host.proofs.Prelude.{subst, sym, [], Machine, Same, Records, Hosted, hosted, RunsFrom, PullsOnce}
use Rattle.bgp_host.proofs.Turns.{at}
use Rattle.bgp_host.proofs.Pulls.{pulled_once}
use Rattle.bgp_host.proofs.host.Host.pull.Goals as goal

pub returns-clause-ok : goal.returns-clause-ok
returns-clause-ok g c =
    let r0 : Records = (record { calls = g.C.Connection.calls c.args.self.now.connection; ticks = g.K.Clock.ticks c.args.self.now.clock; notices = g.O.Observer.notices c.args.self.now.observer }) in
    let r1 : Records = (record { calls = g.C.Connection.calls c.act-link.new.self.connection; ticks = g.K.Clock.ticks c.act-link.new.self.clock; notices = g.O.Observer.notices c.act-link.new.self.observer }) in
    let new : Hosted = (hosted c.follow.new.self.session (g.C.Connection.calls c.follow.new.self.connection) (g.K.Clock.ticks c.follow.new.self.clock) (g.O.Observer.notices c.follow.new.self.observer)) in
    subst (PullsOnce (at c.args.self.now.session r0) c.args.piece.now new) (sym c.taken_by.ensures)
    (pulled_once c.args.self.now.session r0 c.args.piece.now c.pull_into.new.actions c.pull_into.new.self r1 c.act-link.result new c.act-link.ensures.acts
    (subst (λ (m : Machine). RunsFrom c.act-link.result (at m r1) [] Same new) c.act-link.ensures.same c.follow.ensures)
    c.in_ok-taken.taken c.in_ok-taken.found c.in_ok-taken.ensures.ok c.in_ok-taken.ensures.quiet)
