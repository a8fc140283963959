use Rattle.bgp_update.proofs.Taken.{taken-written}
use Rattle.bgp_update.proofs.laws.a_taken_update_can_be_written.Goals as goal

pub returns : goal.returns
returns c = taken-written
