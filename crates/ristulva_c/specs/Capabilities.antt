-- The capabilities of an OPEN in sequence, by a cursor (RFC 5492, section 4).
use Rattle.std.specs.Prelude.{◌≡◌, ◌+◌, ◌-◌, ◌≤◌, ◌∷◌, ◌++◌, ℕ, List, length, Some}
use Rattle.bgp_wire.specs.Prelude.{pieces}
use Rattle.bgp_open.specs.declared.capability.Capability.{Capability}
use Rattle.bgp_open.specs.Prelude.{capability_of, one_capability, capabilities_of}
use Rattle.ristulva_c.specs.declared.capabilities.Capabilities.{Capabilities}
use Rattle.ristulva_c.specs.declared.capabilities.OpenCapability.{OpenCapability}
use Rattle.ristulva_c.specs.Prefixes.{between}
use Rattle.ristulva_c.specs.Span.{octets_in}

-- the cursor's offsets lie in the octets
pub record IsCapabilities (octets : List ℕ) (cursor : Capabilities) : Type 0 where
  pub in_order : cursor.at ≤ cursor.stop
  pub before_end : cursor.stop ≤ cursor.end
  pub within : cursor.end ≤ length octets

-- the remaining capabilities: those of the parameter that was begun, and those of the parameters after it
abbrev pub capabilities_left : List ℕ → Capabilities → List Capability
capabilities_left octets cursor = (pieces one_capability (between octets cursor.at cursor.stop)).0 ++ capabilities_of (between octets cursor.stop cursor.end)

-- the reported capability is the first of the remaining ones: its code and the length of its value precede the value, and the
-- cursor is after it
pub record IsGiven (octets : List ℕ) (old new : Capabilities) (out : OpenCapability) : Type 0 where
  pub capability : Capability
  pub means : capability_of out.code (octets_in out.value octets) ≡ Some capability
  pub first : capabilities_left octets old ≡ capability ∷ capabilities_left octets new
  pub spelled : between octets (out.value.at - 2) new.at ≡ out.code ∷ out.value.len ∷ octets_in out.value octets
  pub behind : new.at ≡ out.value.at + out.value.len
  pub lies : IsCapabilities octets new
  pub same : new.end ≡ old.end
