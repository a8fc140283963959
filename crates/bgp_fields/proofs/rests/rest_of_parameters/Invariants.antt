use Rattle.bgp_fields.proofs.Prelude.{◌≡◌, ◌≤◌, length, pieces, one_parameter}
use Rattle.bgp_fields.proofs.rests.rest_of_parameters.Given as goal

-- what is left has the same rest
abbrev pub invariant-row : goal.invariant-row
invariant-row l = ((pieces one_parameter l.rest).1 ≡ (pieces one_parameter l.octets).1) × (length l.rest ≤ length l.octets)

abbrev pub decreases-row : goal.decreases-row
decreases-row l = length l.rest
