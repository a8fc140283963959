use Rattle.bgp_prefix.proofs.LawLemmas.{prefix_free}
use Rattle.bgp_prefix.proofs.laws.spellings_are_prefix_free.Goals as goal

pub returns : goal.returns
returns c = prefix_free
