use Rattle.bgp_fields.proofs.Joined.{path-octets}
use Rattle.bgp_fields.proofs.laws.the_fields_with_path_identifiers_are_the_message.Goals as goal

pub returns : goal.returns
returns c = path-octets
