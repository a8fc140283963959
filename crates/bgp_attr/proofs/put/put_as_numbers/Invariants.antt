use Rattle.std.proofs.Common.{take}
use Rattle.bgp_attr.specs.Prelude.{number_octets, IsFourOctets}
use Rattle.bgp_wire.proofs.Writes.{IsWritten}
use Rattle.bgp_attr.proofs.put.put_as_numbers.Given as goal

-- those so far are written
abbrev pub invariant-row : goal.invariant-row
invariant-row g l = IsWritten (λ n. number_octets l.wide n.0) (λ n. IsFourOctets n.0) (take l.number-index l.numbers) (g.O.Output.written l.initial.out) (g.O.Output.written l.out)
