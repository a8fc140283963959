use Rattle.bgp_wire.proofs.Std.{take, true}
use Rattle.bgp_attr.specs.Prelude.{number_octets, IsFourOctets}
use Rattle.bgp_wire.proofs.Writes.{IsWritten}
use Rattle.bgp_attr.proofs.put.put_numbers.Given as goal

-- those so far are written
abbrev pub invariant-row : goal.invariant-row
invariant-row g l = IsWritten (number_octets true) IsFourOctets (take l.number-index l.numbers) (g.O.Output.written l.initial.out) (g.O.Output.written l.out)
