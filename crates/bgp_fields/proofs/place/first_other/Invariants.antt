use Rattle.bgp_fields.proofs.Prelude.{◌≡◌, ◌+◌, length, first_other}
use Rattle.bgp_fields.proofs.place.first_other.Given as goal

abbrev pub invariant-marker : goal.invariant-marker
invariant-marker l = (first_other l.at l.rest ≡ first_other 0 l.octets) × (l.at + length l.rest ≡ length l.octets)

abbrev pub decreases-marker : goal.decreases-marker
decreases-marker l = length l.rest
