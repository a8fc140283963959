use Rattle.bgp_fields.proofs.Placed.{reset-placed}
use Rattle.bgp_fields.proofs.laws.each_reset_has_a_place.Goals as goal

pub returns : goal.returns
returns c = reset-placed
