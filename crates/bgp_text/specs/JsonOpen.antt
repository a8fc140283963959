-- An OPEN as JSON.
use Rattle.std.specs.Prelude.{ℕ, List, ◌++◌, codes}
use Rattle.bgp_text.specs.Below.{decimal, Capability, Multi, As4, Other, Open, capability_name}
use Rattle.bgp_numbers.specs.declared.capability.TheConstants.{MULTIPROTOCOL, FOUR_OCTET_AS}
use Rattle.bgp_text.specs.Json.{octets_json, member, listed, where_named}
use Rattle.bgp_text.specs.JsonAddress.{ip4_json}

-- the beginning of an object: the code of a capability
unfoldable pub code_json : ℕ → List ℕ
code_json code = codes "{\"code\":" ++ decimal code

-- the end of an object: the name of the capability, if it has one
abbrev pub name_end : ℕ → List ℕ
name_end code = where_named (codes "name") (capability_name code) ++ codes "}"

-- a family, an AS number, or else the octets of the value
unfoldable pub capability_json : Capability → List ℕ
capability_json (Multi family subsequent) =
    code_json MULTIPROTOCOL ++ (member (codes "afi") decimal family ++ (member (codes "safi") decimal subsequent ++ name_end MULTIPROTOCOL))
capability_json (As4 number) = code_json FOUR_OCTET_AS ++ (member (codes "as") decimal number ++ name_end FOUR_OCTET_AS)
capability_json (Other code value) = code_json code ++ (member (codes "value") octets_json value ++ name_end code)

-- My Autonomous System as in the OPEN, the hold time, the identifier and the capabilities
abbrev pub open_members : Open → List ℕ
open_members o =
    member (codes "as") decimal o.as_field ++ (member (codes "hold") decimal o.hold ++ (member (codes "id") ip4_json o.id
    ++ member (codes "capabilities") (listed capability_json) o.caps))
