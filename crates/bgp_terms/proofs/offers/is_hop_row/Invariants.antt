use Rattle.std.proofs.Common.{◌≡◌, length}
use Rattle.bgp_terms.specs.Prelude.{is_hop_row}
use Rattle.bgp_terms.proofs.offers.is_hop_row.Given as goal

abbrev pub invariant-families : goal.invariant-families
invariant-families l = is_hop_row l.rest ≡ is_hop_row l.value

abbrev pub decreases-families : goal.decreases-families
decreases-families l = length l.rest
