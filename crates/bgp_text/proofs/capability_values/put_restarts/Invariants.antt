use Rattle.bgp_text.proofs.Prelude.{◌≡◌, ◌++◌, length, string_bytes}
use Rattle.bgp_text.specs.CapabilityValues.{restarts_text}
use Rattle.bgp_text.proofs.capability_values.put_restarts.Given as goal

abbrev pub invariant-row : goal.invariant-row
invariant-row l = string_bytes l.text ++ restarts_text l.left ≡ string_bytes l.initial.text ++ restarts_text l.fn.octets

abbrev pub decreases-row : goal.decreases-row
decreases-row l = length l.left
