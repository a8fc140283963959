use Rattle.bgp_paths.proofs.PathBack.{attributes_back}
use Rattle.bgp_paths.proofs.laws.written_attributes_stay_in_their_order.Goals as goal

pub returns : goal.returns
returns c = attributes_back
