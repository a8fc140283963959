-- Optional parameters of an OPEN (RFC 4271, section 4.2): a type, the length of the value, the value.
-- A parameter of type 2 holds any number of capabilities (RFC 5492, section 4).
use Rattle.std.specs.Prelude.{◌≡◌, ℕ, ◌==◌, List, [], ◌∷◌, Option, None, if◌then◌else◌}
use Rattle.bgp_wire.specs.Prelude.{BehindLength, behind_length}
use Rattle.bgp_numbers.specs.declared.parameter.TheConstants.{CAPABILITIES}
use Rattle.bgp_open.specs.declared.capability.Capability.{Capability}
use Rattle.bgp_open.specs.Capability.{IsCapability, one_capability}

-- b is exactly a parameter that holds these capabilities
pub record IsParameter (cs : List Capability) (b : List ℕ) : Type 0 where
  pub value : List ℕ
  pub octets : b ≡ CAPABILITIES ∷ value
  pub holds : BehindLength IsCapability cs value

-- reads the parameter at the front: none where it is cut off, isn't of type 2, or holds anything but capabilities
unfoldable pub one_parameter : List ℕ → Option (List Capability × List ℕ)
one_parameter [] = None
one_parameter (kind ∷ b) = if kind == CAPABILITIES then behind_length one_capability b else None
