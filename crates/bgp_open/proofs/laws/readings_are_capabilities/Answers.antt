use Rattle.bgp_open.proofs.Capabilities.{capability-reads}
use Rattle.bgp_open.proofs.laws.readings_are_capabilities.Goals as goal

pub returns : goal.returns
returns c = capability-reads
