use Rattle.bgp_update.proofs.Widths.{wide_update_has_no_as4}
use Rattle.bgp_update.proofs.laws.an_update_with_four_octets_has_no_as4.Goals as goal

pub returns : goal.returns
returns c = wide_update_has_no_as4
