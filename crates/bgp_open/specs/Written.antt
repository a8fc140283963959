-- The written form of an OPEN: reserved octets 0, all capabilities in one parameter, and no parameter where there are none.
use Rattle.std.specs.Prelude.{◌≡◌, ◌<◌, ◌^◌, ◌||◌, ◌==◌, ℕ, Bool, false, nat_lt, List, [], ◌∷◌, ◌++◌, length}
use Rattle.std.specs.List.{flat_map, list_any, AllByRecursion}
use Rattle.std.specs.Int.{w16, w32, to_be_bytes}
use Rattle.bgp_wire.specs.Prelude.{AreOctets}
use Rattle.bgp_numbers.specs.declared.TheConstants.{VERSION}
use Rattle.bgp_numbers.specs.declared.parameter.TheConstants.{CAPABILITIES}
use Rattle.bgp_numbers.specs.declared.capability.TheConstants.{MULTIPROTOCOL, FOUR_OCTET_AS}
use Rattle.bgp_open.specs.declared.capability.Capability.{Capability}
use Rattle.bgp_open.specs.declared.capability.Capability.TheVariants.{Multi, As4, Other}
use Rattle.bgp_open.specs.declared.message.Open.{Open}
use Rattle.bgp_open.specs.Open.{is_short_hold, is_zero_id}

abbrev pub capability_octets : Capability → List ℕ
capability_octets (Multi family subsequent) = MULTIPROTOCOL ∷ 4 ∷ (to_be_bytes w16 family ++ (0 ∷ subsequent ∷ []))
capability_octets (As4 number) = FOUR_OCTET_AS ∷ 4 ∷ to_be_bytes w32 number
capability_octets (Other code value) = code ∷ length value ∷ value

-- capabilities one after the other
abbrev pub row_octets : List Capability → List ℕ
row_octets caps = flat_map capability_octets caps

-- the parameter that holds a row of capabilities. None for a row without octets: each capability has at least two
abbrev pub parameter_octets : List ℕ → List ℕ
parameter_octets [] = []
parameter_octets (octet ∷ row) = CAPABILITIES ∷ length (octet ∷ row) ∷ octet ∷ row

abbrev pub body_octets : ℕ → ℕ → List ℕ → List ℕ → List ℕ
body_octets as_field hold id row =
    VERSION ∷ (to_be_bytes w16 as_field ++ (to_be_bytes w16 hold ++ (id ++ (length (parameter_octets row) ∷ parameter_octets row))))

-- the body that is written for an OPEN
abbrev pub canonical : Open → List ℕ
canonical o = body_octets o.as_field o.hold o.id (row_octets o.caps)

-- a capability of unknown meaning under a code whose meaning is known here
abbrev pub is_misnamed : Capability → Bool
is_misnamed (Other code value) = (code == MULTIPROTOCOL) || (code == FOUR_OCTET_AS)
is_misnamed _ = false

-- capabilities that don't fit one parameter, since one octet counts their length and the parameter's own two octets, or that would be read as others
abbrev pub is_bad_row : List Capability → Bool
is_bad_row caps = nat_lt 253 (length (row_octets caps)) || list_any is_misnamed caps

-- an OPEN that isn't written
abbrev pub is_bad : Open → Bool
is_bad o = is_short_hold o.hold || (is_zero_id o.id || is_bad_row o.caps)

-- each number is within its field, as in each value of the program
abbrev pub HasRange : Capability → Type 0
HasRange (Multi family subsequent) = (family < 2 ^ 16) × (subsequent < 256)
HasRange (As4 number) = number < 2 ^ 32
HasRange (Other code value) = (code < 256) × AreOctets value

pub record HasRanges (o : Open) : Type 0 where
  pub as_field : o.as_field < 2 ^ 16
  pub hold : o.hold < 2 ^ 16
  pub id : length o.id ≡ 4
  pub id_octets : AreOctets o.id
  pub caps : AllByRecursion HasRange o.caps
