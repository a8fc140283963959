use Rattle.bgp_paths.proofs.Same.{attributes_same}
use Rattle.bgp_paths.proofs.laws.attributes_stay_in_their_order.Goals as goal

pub returns : goal.returns
returns c = attributes_same
