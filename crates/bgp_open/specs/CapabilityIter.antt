-- The capabilities that an iterator has left.
use Rattle.std.specs.Prelude.{ℕ, List, ◌++◌}
use Rattle.bgp_wire.specs.Prelude.{pieces}
use Rattle.bgp_open.specs.declared.capability.Capability.{Capability}
use Rattle.bgp_open.specs.declared.capability_iter.CapabilityIter.{CapabilityIter}
use Rattle.bgp_open.specs.Capability.{one_capability}
use Rattle.bgp_open.specs.Open.{joined}
use Rattle.bgp_open.specs.Parameter.{one_parameter}

-- the capabilities of all parameters
abbrev pub capabilities_of : List ℕ → List Capability
capabilities_of parameters = joined (pieces one_parameter parameters).0

-- those of the parameter that was begun, and those after it
abbrev pub capabilities_left : CapabilityIter → List Capability
capabilities_left it = (pieces one_capability it.begun.now).0 ++ capabilities_of it.later.now
