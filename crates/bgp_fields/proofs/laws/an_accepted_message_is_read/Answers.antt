use Rattle.bgp_fields.proofs.Accepted.{accepted-read}
use Rattle.bgp_fields.proofs.laws.an_accepted_message_is_read.Goals as goal

pub returns : goal.returns
returns c = accepted-read
