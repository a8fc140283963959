use Rattle.bgp_host.proofs.Prelude.{List, Cause, hosted, Runs, ArePulls, weight}
use Rattle.bgp_host.proofs.host.Host.hear.Given as goal

-- the octets so far were received
abbrev pub invariant-piece : goal.invariant-piece
invariant-piece g l =
    (causes : List Cause)
    × Runs (hosted l.initial.self.session (g.C.Connection.calls l.initial.self.connection) (g.K.Clock.ticks l.initial.self.clock) (g.O.Observer.notices l.initial.self.observer)) causes (hosted l.self.session (g.C.Connection.calls l.self.connection) (g.K.Clock.ticks l.self.clock) (g.O.Observer.notices l.self.observer))
    × ArePulls l.fn.piece causes l.rest

abbrev pub decreases-piece : goal.decreases-piece
decreases-piece g l = weight l.self.session l.rest
