use Rattle.bgp_open.proofs.Parameters.{parameter-reads}
use Rattle.bgp_open.proofs.laws.readings_are_parameters.Goals as goal

pub returns : goal.returns
returns c = parameter-reads
