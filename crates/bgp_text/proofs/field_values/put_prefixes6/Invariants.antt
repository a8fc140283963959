use Rattle.bgp_text.proofs.Prelude.{◌≡◌, ◌++◌, length, flat_map, string_bytes, prefixes_left}
use Rattle.bgp_text.specs.FieldValues.{prefix6_text}
use Rattle.bgp_text.proofs.field_values.put_prefixes6.Given as goal

abbrev pub invariant-row : goal.invariant-row
invariant-row l =
    string_bytes l.text ++ flat_map prefix6_text (prefixes_left l.left) ≡ string_bytes l.initial.text ++ flat_map prefix6_text (prefixes_left l.initial.left)

abbrev pub decreases-row : goal.decreases-row
decreases-row l = length (prefixes_left l.left)
