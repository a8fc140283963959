use Rattle.bgp_wire.proofs.Std.{[], get_or, get_or_default}
use Rattle.bgp_attr.specs.Prelude.{triple_octets, IsThreeNumbers}
use Rattle.bgp_wire.proofs.Writes.{one_written, all_written}
use Rattle.bgp_attr.proofs.Parts.{on_refusal, row_stopped}
use Rattle.bgp_attr.proofs.put.put_triples.Goals as goal

pub returns-in_err-put_triple-clause-err : goal.returns-in_err-put_triple-clause-err
returns-in_err-put_triple-clause-err g c =
    let written = g.O.Output.written in
    on_refusal c.from_residual.result (row_stopped triple_octets IsThreeNumbers c.args.triples.now c.row.triple-index (written c.args.out.now) (written c.row.out) c.row.invariant g.O.Output.room (get_or c.args.triples.now c.row.triple-index []) (written c.put_triple.new.out) c.row-test.true (get_or_default c.args.triples.now c.row.triple-index [] (get_or c.args.triples.now c.row.triple-index []) c.row-test.true) c.in_err-put_triple.ensures.err)

pub row-preserved : goal.row-preserved
row-preserved g c =
    let written = g.O.Output.written in
    one_written triple_octets IsThreeNumbers c.args.triples.now c.row.triple-index (written c.args.out.now) (written c.row.out) c.row.invariant (get_or c.args.triples.now c.row.triple-index []) (written c.put_triple.new.out) c.row-test.true (get_or_default c.args.triples.now c.row.triple-index [] (get_or c.args.triples.now c.row.triple-index []) c.row-test.true) c.in_ok-put_triple.ensures.ok.0 c.in_ok-put_triple.ensures.ok.1

pub returns-clause-ok : goal.returns-clause-ok
returns-clause-ok g c =
    let all = all_written triple_octets IsThreeNumbers c.args.triples.now c.row.triple-index (g.O.Output.written c.args.out.now) (g.O.Output.written c.row.out) c.row.invariant c.row-test.false in
    (all.items, all.ranges)
