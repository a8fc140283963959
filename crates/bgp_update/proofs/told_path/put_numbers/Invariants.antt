use Rattle.std.proofs.Common.{false}
use Rattle.bgp_attr.specs.Prelude.{as_numbers_left, number_octets}
use Rattle.bgp_attr.proofs.ViewWrites.{IsWriting}
use Rattle.bgp_update.specs.Prelude.{narrow_number}
use Rattle.bgp_update.proofs.told_path.put_numbers.Given as goal

-- those so far are written
abbrev pub invariant-row : goal.invariant-row
invariant-row l = IsWriting (λ n. number_octets false (narrow_number n).0) (as_numbers_left l.fn.numbers) (as_numbers_left l.number-iterator) l.initial.out.items l.out.items
