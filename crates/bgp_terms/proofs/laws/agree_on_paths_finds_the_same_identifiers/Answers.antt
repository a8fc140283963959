use Rattle.bgp_terms.proofs.Roles.{paths-same}
use Rattle.bgp_terms.proofs.laws.agree_on_paths_finds_the_same_identifiers.Goals as goal

pub returns : goal.returns
returns c = paths-same
