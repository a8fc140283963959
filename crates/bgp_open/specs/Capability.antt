-- Capabilities as octets (RFC 5492, section 4): a code, the length of the value, the value.
use Rattle.std.specs.Prelude.{◌≡◌, ℕ, ◌==◌, List, [], ◌∷◌, length, Option, None, Some, if◌then◌else◌}
use Rattle.std.specs.Int.{w16, w32, from_be_bytes}
use Rattle.bgp_wire.specs.Prelude.{◌>>=◌, first_octets}
use Rattle.bgp_numbers.specs.declared.capability.TheConstants.{MULTIPROTOCOL, FOUR_OCTET_AS}
use Rattle.bgp_open.specs.declared.capability.Capability.{Capability}
use Rattle.bgp_open.specs.declared.capability.Capability.TheVariants.{Multi, As4, Other}

-- an address family, a reserved octet of any value, and a subsequent address family (RFC 4760, section 8)
abbrev pub multi_of : List ℕ → Option Capability
multi_of (high ∷ low ∷ reserved ∷ subsequent ∷ []) = Some (Multi (from_be_bytes w16 (high ∷ low ∷ [])) subsequent)
multi_of _ = None

-- an AS number of four octets (RFC 6793, sections 3 and 4.1)
abbrev pub as4_of : List ℕ → Option Capability
as4_of (a ∷ b ∷ c ∷ d ∷ []) = Some (As4 (from_be_bytes w32 (a ∷ b ∷ c ∷ d ∷ [])))
as4_of _ = None

-- the meaning of a value under this code: the values of two codes have four octets
abbrev pub capability_of : ℕ → List ℕ → Option Capability
capability_of code value =
    if code == MULTIPROTOCOL then multi_of value else (
    if code == FOUR_OCTET_AS then as4_of value else
    Some (Other code value))

-- the code of a capability
abbrev pub code_of : Capability → ℕ
code_of (Multi family subsequent) = MULTIPROTOCOL
code_of (As4 number) = FOUR_OCTET_AS
code_of (Other code value) = code

-- b is exactly the capability c
pub record IsCapability (c : Capability) (b : List ℕ) : Type 0 where
  pub code : ℕ
  pub value : List ℕ
  pub octets : b ≡ code ∷ length value ∷ value
  pub means : capability_of code value ≡ Some c

-- reads the capability at the front: none where it is cut off, or its length isn't that which its code has
unfoldable pub one_capability : List ℕ → Option (Capability × List ℕ)
one_capability (code ∷ n ∷ b) = do
  value ← first_octets n b
  capability ← capability_of code value.0
  Some (capability, value.1)
one_capability _ = None
