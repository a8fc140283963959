use Rattle.std.proofs.Common.{◌≡◌, length}
use Rattle.bgp_terms.specs.Prelude.{has_hop6}
use Rattle.bgp_terms.proofs.offers.has_hop6.Given as goal

abbrev pub invariant-families : goal.invariant-families
invariant-families l = has_hop6 l.rest ≡ has_hop6 l.value

abbrev pub decreases-families : goal.decreases-families
decreases-families l = length l.rest
