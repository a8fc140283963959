use Rattle.bgp_update.proofs.ReadBack.{valid-taken}
use Rattle.bgp_update.proofs.laws.a_valid_update_is_taken_as_itself.Goals as goal

pub returns : goal.returns
returns c = valid-taken
