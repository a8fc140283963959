use Rattle.bgp_fields.proofs.Joined.{refresh-octets}
use Rattle.bgp_fields.proofs.laws.the_fields_of_a_refresh_are_its_octets.Goals as goal

pub returns : goal.returns
returns c = refresh-octets
