use Rattle.bgp_fields.proofs.Joined.{fields-octets}
use Rattle.bgp_fields.proofs.laws.the_fields_are_the_message.Goals as goal

pub returns : goal.returns
returns c = fields-octets
