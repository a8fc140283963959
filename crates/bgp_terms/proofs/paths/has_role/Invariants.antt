use Rattle.std.proofs.Common.{◌≡◌, length}
use Rattle.bgp_terms.specs.Prelude.{has_role}
use Rattle.bgp_terms.proofs.paths.has_role.Given as goal

abbrev pub invariant-families : goal.invariant-families
invariant-families l = has_role l.role l.family l.rest ≡ has_role l.role l.family l.value

abbrev pub decreases-families : goal.decreases-families
decreases-families l = length l.rest
