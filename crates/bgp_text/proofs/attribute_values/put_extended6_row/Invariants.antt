use Rattle.bgp_text.proofs.Prelude.{◌≡◌, ◌++◌, length, string_bytes}
use Rattle.bgp_text.specs.AttributeValues.{extended6_row}
use Rattle.bgp_text.proofs.attribute_values.put_extended6_row.Given as goal

abbrev pub invariant-row : goal.invariant-row
invariant-row l = string_bytes l.text ++ extended6_row l.left ≡ string_bytes l.initial.text ++ extended6_row l.fn.octets

abbrev pub decreases-row : goal.decreases-row
decreases-row l = length l.left
