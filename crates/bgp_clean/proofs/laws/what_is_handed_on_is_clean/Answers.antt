use Rattle.bgp_clean.proofs.Handed.{handed-clean}
use Rattle.bgp_clean.proofs.laws.what_is_handed_on_is_clean.Goals as goal

pub returns : goal.returns
returns c = handed-clean
