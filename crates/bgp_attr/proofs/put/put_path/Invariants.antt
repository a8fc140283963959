use Rattle.bgp_wire.proofs.Std.{take, AllByRecursion}
use Rattle.bgp_attr.specs.Prelude.{segment_octets, IsFourOctets}
use Rattle.bgp_wire.proofs.Writes.{IsWritten}
use Rattle.bgp_attr.proofs.put.put_path.Given as goal

-- those so far are written
abbrev pub invariant-path : goal.invariant-path
invariant-path g l = IsWritten (segment_octets l.wide) (λ s. AllByRecursion (λ n. IsFourOctets n.0) s.numbers) (take l.segment-index l.segments) (g.O.Output.written l.initial.out) (g.O.Output.written l.out)
