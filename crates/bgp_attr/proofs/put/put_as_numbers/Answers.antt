use Rattle.bgp_wire.proofs.Std.{get_or, get_or_default}
use Rattle.bgp_attr.specs.Prelude.{number_octets, IsFourOctets}
use Rattle.bgp_wire.proofs.Writes.{one_written, all_written}
use Rattle.bgp_attr.proofs.Parts.{on_refusal, row_stopped}
use Rattle.bgp_attr.proofs.put.put_as_numbers.Goals as goal

pub returns-in_err-put_number-clause-err : goal.returns-in_err-put_number-clause-err
returns-in_err-put_number-clause-err g c =
    let written = g.O.Output.written in
    on_refusal c.from_residual.result (row_stopped (λ n. number_octets c.args.wide n.0) (λ n. IsFourOctets n.0) c.args.numbers.now c.row.number-index (written c.args.out.now) (written c.row.out) c.row.invariant g.O.Output.room (get_or c.args.numbers.now c.row.number-index _) (written c.put_number.new.out) c.row-test.true (get_or_default c.args.numbers.now c.row.number-index _ (get_or c.args.numbers.now c.row.number-index _) c.row-test.true) c.in_err-put_number.ensures.err)

pub row-preserved : goal.row-preserved
row-preserved g c =
    let written = g.O.Output.written in
    one_written (λ n. number_octets c.args.wide n.0) (λ n. IsFourOctets n.0) c.args.numbers.now c.row.number-index (written c.args.out.now) (written c.row.out) c.row.invariant (get_or c.args.numbers.now c.row.number-index _) (written c.put_number.new.out) c.row-test.true (get_or_default c.args.numbers.now c.row.number-index _ (get_or c.args.numbers.now c.row.number-index _) c.row-test.true) c.in_ok-put_number.ensures.ok.0 c.in_ok-put_number.ensures.ok.1

pub returns-clause-ok : goal.returns-clause-ok
returns-clause-ok g c =
    let all = all_written (λ n. number_octets c.args.wide n.0) (λ n. IsFourOctets n.0) c.args.numbers.now c.row.number-index (g.O.Output.written c.args.out.now) (g.O.Output.written c.row.out) c.row.invariant c.row-test.false in
    (all.items, all.ranges)
