use Rattle.bgp_fields.proofs.Refreshed.{refresh-row}
use Rattle.bgp_fields.proofs.laws.the_fields_of_a_refresh.Goals as goal

pub returns : goal.returns
returns c = refresh-row
