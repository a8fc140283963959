use Rattle.bgp_paths.proofs.Same.{body_shorter}
use Rattle.bgp_paths.proofs.laws.bodies_grow_no_longer.Goals as goal

pub returns : goal.returns
returns c = body_shorter
