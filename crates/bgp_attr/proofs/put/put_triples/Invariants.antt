use Rattle.std.proofs.Common.{take}
use Rattle.bgp_attr.specs.Prelude.{triple_octets, IsThreeNumbers}
use Rattle.bgp_wire.proofs.Writes.{IsWritten}
use Rattle.bgp_attr.proofs.put.put_triples.Given as goal

-- those so far are written
abbrev pub invariant-row : goal.invariant-row
invariant-row g l = IsWritten triple_octets IsThreeNumbers (take l.triple-index l.triples) (g.O.Output.written l.initial.out) (g.O.Output.written l.out)
