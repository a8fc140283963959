use Rattle.bgp_update.proofs.Narrowing.{narrowed-rebuilt}
use Rattle.bgp_update.proofs.laws.narrowed_paths_are_rebuilt.Goals as goal

pub returns : goal.returns
returns c = narrowed-rebuilt
