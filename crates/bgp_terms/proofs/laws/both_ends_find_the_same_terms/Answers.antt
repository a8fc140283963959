use Rattle.bgp_terms.proofs.Agreements.{terms_same}
use Rattle.bgp_terms.proofs.laws.both_ends_find_the_same_terms.Goals as goal

pub returns : goal.returns
returns c = terms_same
