-- The peer's OPEN parameters, as far as a session keeps them (RFC 4271, section 4.2; RFC 5492).
use Rattle.std.specs.Prelude.{ℕ, Bool, false, ◌&&◌, ◌||◌, ◌==◌, List, [], ◌∷◌, Option, None, Some, unwrap_or}
use Rattle.std.specs.List.{filter, list_any, range_with_len}
use Rattle.std.specs.Option.{option_or}
use Rattle.bgp_wire.specs.Prelude.{also, has_octet, none_of_them}
use Rattle.bgp_numbers.specs.declared.afi.TheConstants.{IPV4, IPV6}
use Rattle.bgp_numbers.specs.declared.safi.TheConstants.{UNICAST}
use Rattle.bgp_open.specs.declared.capability.Capability.{Capability}
use Rattle.bgp_open.specs.declared.capability.Capability.TheVariants.{Multi, As4, Other}
use Rattle.bgp_open.specs.declared.message.Open.{Open}
use Rattle.bgp_open.specs.declared.peer.Peer.{Peer}
use Rattle.bgp_open.specs.Capability.{code_of}

-- the number of the first capability for AS numbers of four octets
abbrev pub first_as4 : List Capability → Option ℕ
first_as4 [] = None
first_as4 (Multi family subsequent ∷ later) = first_as4 later
first_as4 (As4 number ∷ later) = Some number
first_as4 (Other code value ∷ later) = first_as4 later

-- unicast routes of this family (RFC 4760, section 8)
abbrev pub is_unicast : ℕ → Capability → Bool
is_unicast family (Multi f subsequent) = (f == family) && (subsequent == UNICAST)
is_unicast family _ = false

-- the codes of the capabilities
abbrev pub codes_of : List Capability → ℕ → Bool
codes_of caps = λ code. list_any (λ c. code == code_of c) caps

-- the octets that pass a test, ascending
unfoldable pub rising : (ℕ → Bool) → List ℕ
rising test = filter test (range_with_len 0 256)

-- My Autonomous System, the number of the first capability for AS numbers of four octets, the identifier and the Hold Time, whether unicast routes of
-- the two families are offered, and the codes of all capabilities
pub record Said : Type 0 where
  pub as_field : ℕ
  pub as4 : Option ℕ
  pub id : List ℕ
  pub hold : ℕ
  pub ip4 : Bool
  pub ip6 : Bool
  pub codes : List ℕ

-- the same, with a test for the codes
pub record Told : Type 0 where
  pub as_field : ℕ
  pub as4 : Option ℕ
  pub id : List ℕ
  pub hold : ℕ
  pub ip4 : Bool
  pub ip6 : Bool
  pub codes : ℕ → Bool

abbrev pub told_by : Open → Told
told_by o = record {
  as_field = o.as_field;
  as4 = first_as4 o.caps;
  id = o.id;
  hold = o.hold;
  ip4 = list_any (is_unicast IPV4) o.caps;
  ip6 = list_any (is_unicast IPV6) o.caps;
  codes = codes_of o.caps;
}

abbrev pub told_of : Peer → Told
told_of p = record { as_field = p.as_field; as4 = p.as4; id = p.id; hold = p.hold; ip4 = p.ip4; ip6 = p.ip6; codes = has_octet p.codes }

-- the codes that pass the test, ascending
abbrev pub said_with : Told → Said
said_with p = record { as_field = p.as_field; as4 = p.as4; id = p.id; hold = p.hold; ip4 = p.ip4; ip6 = p.ip6; codes = rising p.codes }

-- the OPEN parameters of its sender
abbrev pub said_by : Open → Said
said_by o = said_with (told_by o)

-- those that a `Peer` keeps
abbrev pub said_of : Peer → Said
said_of p = said_with (told_of p)

-- the AS number of a speaker: that of four octets, else its My Autonomous System (RFC 6793, section 4.1)
abbrev pub number_of : Said → ℕ
number_of p = unwrap_or p.as4 p.as_field

-- ---- how they are collected: from nothing offered, capability by capability

abbrev pub plain : ℕ → ℕ → List ℕ → Told
plain as_field hold id = record { as_field = as_field; as4 = None; id = id; hold = hold; ip4 = false; ip6 = false; codes = none_of_them }

abbrev pub also_offers : Told → Capability → Told
also_offers p c = record {
  as_field = p.as_field;
  as4 = option_or p.as4 (first_as4 (c ∷ []));
  id = p.id;
  hold = p.hold;
  ip4 = p.ip4 || is_unicast IPV4 c;
  ip6 = p.ip6 || is_unicast IPV6 c;
  codes = also (code_of c) p.codes;
}

abbrev pub offering : Told → List Capability → Told
offering p [] = p
offering p (c ∷ later) = offering (also_offers p c) later
