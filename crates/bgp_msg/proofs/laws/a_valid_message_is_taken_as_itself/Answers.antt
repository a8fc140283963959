use Rattle.bgp_msg.proofs.Itself.{valid-itself}
use Rattle.bgp_msg.proofs.laws.a_valid_message_is_taken_as_itself.Goals as goal

pub returns : goal.returns
returns c = valid-itself
