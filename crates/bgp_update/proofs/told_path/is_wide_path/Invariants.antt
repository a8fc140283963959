use Rattle.bgp_wire.proofs.Std.{◌≡◌, list_any}
use Rattle.bgp_attr.specs.Prelude.{path_value, segments_left, any_number, is_above_two_octets}
use Rattle.bgp_update.proofs.told_path.is_wide_path.Given as goal

-- none of those so far has one
abbrev pub invariant-path : goal.invariant-path
invariant-path l = any_number is_above_two_octets (path_value l.fn.path) ≡ list_any (λ s. list_any (λ n. is_above_two_octets n.0) s.numbers) (segments_left l.segment-iterator)
