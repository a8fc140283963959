use Rattle.bgp_paths.proofs.PathBack.{parts_back}
use Rattle.bgp_paths.proofs.laws.written_bodies_keep_their_parts.Goals as goal

pub returns : goal.returns
returns c = parts_back
