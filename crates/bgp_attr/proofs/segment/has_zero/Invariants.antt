use Rattle.bgp_wire.proofs.Std.{◌≡◌, length, list_any}
use Rattle.bgp_attr.specs.Prelude.{numbers_of, is_zero}
use Rattle.bgp_attr.proofs.segment.has_zero.Given as goal

-- a zero is among what is left exactly where one is among all
abbrev pub invariant-row : goal.invariant-row
invariant-row l = list_any is_zero (numbers_of l.wide l.rest) ≡ list_any is_zero (numbers_of l.wide l.octets)

abbrev pub decreases-row : goal.decreases-row
decreases-row l = length l.rest
