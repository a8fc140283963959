use Rattle.bgp_host.proofs.Prelude.{refl, [], Same, hosted}
use Rattle.bgp_host.proofs.Records.{on_err}
use Rattle.bgp_host.proofs.Turns.{runs_none, heard_next, heard_all, heard_some}
use Rattle.bgp_host.proofs.host.Host.hear.Goals as goal

pub piece-init : goal.piece-init
piece-init g c = ([], runs_none Same (hosted c.args.self.now.session (g.C.Connection.calls c.args.self.now.connection) (g.K.Clock.ticks c.args.self.now.clock) (g.O.Observer.notices c.args.self.now.observer)), refl)

pub returns-in_err-taken-clause-err : goal.returns-in_err-taken-clause-err
returns-in_err-taken-clause-err g c =
    on_err c.from_residual.result
    (heard_some (hosted c.args.self.now.session (g.C.Connection.calls c.args.self.now.connection) (g.K.Clock.ticks c.args.self.now.clock) (g.O.Observer.notices c.args.self.now.observer))
    (hosted c.piece.self.session (g.C.Connection.calls c.piece.self.connection) (g.K.Clock.ticks c.piece.self.clock) (g.O.Observer.notices c.piece.self.observer))
    (hosted c.pull.new.self.session (g.C.Connection.calls c.pull.new.self.connection) (g.K.Clock.ticks c.pull.new.self.clock) (g.O.Observer.notices c.pull.new.self.observer))
    c.args.piece.now c.piece.rest.now c.piece.invariant.0 c.piece.invariant.1 c.piece.invariant.2 c.in_err-taken.ensures.err)

pub piece-preserved : goal.piece-preserved
piece-preserved g c =
    heard_next (hosted c.args.self.now.session (g.C.Connection.calls c.args.self.now.connection) (g.K.Clock.ticks c.args.self.now.clock) (g.O.Observer.notices c.args.self.now.observer))
    (hosted c.piece.self.session (g.C.Connection.calls c.piece.self.connection) (g.K.Clock.ticks c.piece.self.clock) (g.O.Observer.notices c.piece.self.observer))
    (hosted c.pull.new.self.session (g.C.Connection.calls c.pull.new.self.connection) (g.K.Clock.ticks c.pull.new.self.clock) (g.O.Observer.notices c.pull.new.self.observer))
    c.args.piece.now c.piece.rest.now c.piece.invariant.0 c.in_ok-taken.field-0 c.in-Some.taken c.split_at.result.1.now
    c.piece.invariant.1 c.piece.invariant.2 c.in_ok-taken.ensures.ok c.in-Some.is c.split_at.ensures.back

pub returns-clause-ok : goal.returns-clause-ok
returns-clause-ok g c =
    heard_all (hosted c.args.self.now.session (g.C.Connection.calls c.args.self.now.connection) (g.K.Clock.ticks c.args.self.now.clock) (g.O.Observer.notices c.args.self.now.observer))
    (hosted c.piece.self.session (g.C.Connection.calls c.piece.self.connection) (g.K.Clock.ticks c.piece.self.clock) (g.O.Observer.notices c.piece.self.observer))
    (hosted c.pull.new.self.session (g.C.Connection.calls c.pull.new.self.connection) (g.K.Clock.ticks c.pull.new.self.clock) (g.O.Observer.notices c.pull.new.self.observer))
    c.args.piece.now c.piece.rest.now c.piece.invariant.0 c.in_ok-taken.field-0
    c.piece.invariant.1 c.piece.invariant.2 c.in_ok-taken.ensures.ok c.in_default.is
