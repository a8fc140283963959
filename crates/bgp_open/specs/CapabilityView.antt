-- The value of a capability that is borrowed from the octets read.
use Rattle.bgp_open.specs.declared.capability.Capability.{Capability}
use Rattle.bgp_open.specs.declared.capability.Capability.TheVariants as capability
use Rattle.bgp_open.specs.declared.capability_view.CapabilityView.{CapabilityView}
use Rattle.bgp_open.specs.declared.capability_view.CapabilityView.TheVariants as view

abbrev pub capability_value : CapabilityView → Capability
capability_value (view.Multi family subsequent) = capability.Multi family subsequent
capability_value (view.As4 number) = capability.As4 number
capability_value (view.Other code value) = capability.Other code value.now
