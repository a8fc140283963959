use Rattle.bgp_update.proofs.Bodies.{parts-body, body-parts}
use Rattle.bgp_update.proofs.laws.bodies_split_in_one_way.Goals as goal

pub returns : goal.returns
returns c = record { found = parts-body; only = body-parts }
