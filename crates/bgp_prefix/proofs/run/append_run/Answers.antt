use Rattle.std.proofs.lemmas.Result.{err_from_is_err_and}
use Rattle.bgp_wire.proofs.Writes.{some_written, one_lacks}
use Rattle.bgp_prefix.specs.Prelude.{IsValid, spelling_of}
use Rattle.bgp_prefix.proofs.run.append_run.Goals as goal

pub returns-in_err-append_to-clause-err : goal.returns-in_err-append_to-clause-err
returns-in_err-append_to-clause-err g c =
    let written = g.O.Output.written in
    let p = err_from_is_err_and c.from_residual.result c.from_residual.ensures.1 in
    rw p.1 (some_written spelling_of (IsValid g.row.W) c.args.prefixes.now c.run.prefix-index (written c.args.out.now) (written c.run.out) c.run.invariant (written c.append_to.new.out) c.in_err-append_to.ensures.err)

pub returns-in_err-append_to-clause-full : goal.returns-in_err-append_to-clause-full
returns-in_err-append_to-clause-full g c =
    let written = g.O.Output.written in
    let p = err_from_is_err_and c.from_residual.result c.from_residual.ensures.1 in
    rw p.1 (one_lacks spelling_of (IsValid g.row.W) c.args.prefixes.now c.run.prefix-index (written c.args.out.now) (written c.run.out) c.run.invariant g.O.Output.room c.prefix-item.result c.run-test.true c.prefix-item.is c.in_err-append_to.ensures.full)
