use Rattle.bgp_msg.proofs.TakenMessages.{taken-can}
use Rattle.bgp_msg.proofs.laws.a_taken_message_can_be_written.Goals as goal

pub returns : goal.returns
returns c = taken-can
