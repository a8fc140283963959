use Rattle.bgp_update.proofs.Widths.{narrowed_update_is_valid}
use Rattle.bgp_update.proofs.laws.a_narrowed_update_is_valid.Goals as goal

pub returns : goal.returns
returns c = narrowed_update_is_valid
