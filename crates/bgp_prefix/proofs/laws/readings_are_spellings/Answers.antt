use Rattle.bgp_prefix.proofs.PrefixLemmas.{IsPrefix-reads}
use Rattle.bgp_prefix.proofs.laws.readings_are_spellings.Goals as goal

pub returns : goal.returns
returns c = IsPrefix-reads
