use Rattle.bgp_paths.proofs.Same.{parts_same}
use Rattle.bgp_paths.proofs.laws.bodies_keep_their_parts.Goals as goal

pub returns : goal.returns
returns c = parts_same
