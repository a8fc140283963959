use Rattle.bgp_wide.proofs.Without.{without_refreshes}
use Rattle.bgp_wide.proofs.laws.a_stream_without_its_refreshes_has_the_same_other_outcomes.Goals as goal

pub returns : goal.returns
returns c = without_refreshes
