use Rattle.bgp_fields.proofs.Prelude.{◌≡◌, length, pieces, one_capability}
use Rattle.bgp_fields.proofs.rests.rest_of_capabilities.Given as goal

-- what is left has the same rest
abbrev pub invariant-row : goal.invariant-row
invariant-row l = (pieces one_capability l.rest).1 ≡ (pieces one_capability l.octets).1

abbrev pub decreases-row : goal.decreases-row
decreases-row l = length l.rest
