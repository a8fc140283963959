use Rattle.bgp_wire.proofs.Std.{◌≡◌, list_any}
use Rattle.bgp_attr.specs.Prelude.{as_numbers_left, is_above_two_octets}
use Rattle.bgp_update.proofs.told_path.has_wide_number.Given as goal

-- none of those so far does
abbrev pub invariant-row : goal.invariant-row
invariant-row l = list_any (λ n. is_above_two_octets n.0) (as_numbers_left l.fn.numbers) ≡ list_any (λ n. is_above_two_octets n.0) (as_numbers_left l.number-iterator)
