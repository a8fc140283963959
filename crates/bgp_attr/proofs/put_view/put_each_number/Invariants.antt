use Rattle.bgp_attr.specs.Prelude.{as_numbers_left, number_octets}
use Rattle.bgp_attr.proofs.ViewWrites.{IsWriting}
use Rattle.bgp_attr.proofs.put_view.put_each_number.Given as goal

-- those so far are written
abbrev pub invariant-row : goal.invariant-row
invariant-row g l = IsWriting (λ n. number_octets l.wide n.0) (as_numbers_left l.fn.numbers) (as_numbers_left l.number-iterator) (g.O.Output.written l.initial.out) (g.O.Output.written l.out)
