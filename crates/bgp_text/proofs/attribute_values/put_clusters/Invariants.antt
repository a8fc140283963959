use Rattle.bgp_text.proofs.Prelude.{◌≡◌, ◌++◌, length, string_bytes}
use Rattle.bgp_text.specs.AttributeValues.{clusters_text}
use Rattle.bgp_text.proofs.attribute_values.put_clusters.Given as goal

abbrev pub invariant-row : goal.invariant-row
invariant-row l = string_bytes l.text ++ clusters_text l.left ≡ string_bytes l.initial.text ++ clusters_text l.fn.octets

abbrev pub decreases-row : goal.decreases-row
decreases-row l = length l.left
