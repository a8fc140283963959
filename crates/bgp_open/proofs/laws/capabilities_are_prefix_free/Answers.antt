use Rattle.bgp_wire.proofs.Pieces.{Reads-prefix_free}
use Rattle.bgp_open.specs.declared.capability.Capability.{Capability}
use Rattle.bgp_open.specs.Prelude.{IsCapability, one_capability}
use Rattle.bgp_open.proofs.Capabilities.{capability-reads}
use Rattle.bgp_open.proofs.laws.capabilities_are_prefix_free.Goals as goal

pub returns : goal.returns
returns c = Reads-prefix_free Capability IsCapability one_capability capability-reads
