use Rattle.bgp_wire.proofs.Std.{AllByRecursion}
use Rattle.bgp_attr.specs.Prelude.{segment_octets, IsFourOctets}
use Rattle.bgp_wire.proofs.Writes.{one_written, all_written}
use Rattle.bgp_attr.proofs.Parts.{on_refusal, row_stopped}
use Rattle.bgp_attr.proofs.put.put_path.Goals as goal

pub returns-in_err-put_segment-clause-err : goal.returns-in_err-put_segment-clause-err
returns-in_err-put_segment-clause-err g c =
    let written = g.O.Output.written in
    on_refusal c.from_residual.result (row_stopped (segment_octets c.args.wide) (λ s. AllByRecursion (λ n. IsFourOctets n.0) s.numbers) c.args.segments.now c.path.segment-index (written c.args.out.now) (written c.path.out) c.path.invariant g.O.Output.room c.segment-item.result (written c.put_segment.new.out) c.path-test.true c.segment-item.is c.in_err-put_segment.ensures.err)

pub path-preserved : goal.path-preserved
path-preserved g c =
    let written = g.O.Output.written in
    one_written (segment_octets c.args.wide) (λ s. AllByRecursion (λ n. IsFourOctets n.0) s.numbers) c.args.segments.now c.path.segment-index (written c.args.out.now) (written c.path.out) c.path.invariant c.segment-item.result (written c.put_segment.new.out) c.path-test.true c.segment-item.is c.in_ok-put_segment.ensures.ok.0 c.in_ok-put_segment.ensures.ok.1

pub returns-clause-ok : goal.returns-clause-ok
returns-clause-ok g c =
    let all = all_written (segment_octets c.args.wide) (λ s. AllByRecursion (λ n. IsFourOctets n.0) s.numbers) c.args.segments.now c.path.segment-index (g.O.Output.written c.args.out.now) (g.O.Output.written c.path.out) c.path.invariant c.path-test.false in
    (all.items, all.ranges)
