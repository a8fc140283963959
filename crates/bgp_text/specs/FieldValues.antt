-- The value of a field, printed after its name.
use Rattle.std.specs.Prelude.{ℕ, Bool, true, false, ◌==◌, List, [], ◌∷◌, ◌++◌, length, take, drop, codes, slice_index, if◌then◌else◌}
use Rattle.bgp_text.specs.Below.{flat_map, decimal}
use Rattle.bgp_text.specs.Below.{run_of, PrefixValue, ipv4_address_text, ipv4_text, is_optional, is_transitive, is_partial, is_extended}
use Rattle.bgp_text.specs.Below.{attribute_name, origin_name, segment_name, capability_name, parameter_name, error_name, subcode_name, FieldKind}
use Rattle.std.specs.Int.{w16, w32, from_be_bytes}
use Rattle.bgp_names.specs.Families.{afi_name, safi_name}
use Rattle.bgp_names.specs.Messages.{message_name}
use Rattle.bgp_names.specs.Names.{named}
use Rattle.bgp_text.specs.CommunityLines.{community_name, community_text, large_text}
use Rattle.bgp_text.specs.Escape.{escaped_string}
use Rattle.bgp_text.specs.JsonAddress.{ip6_text}
use Rattle.bgp_text.specs.Shutdown.{shutdown_text}

-- the number in one octet, two or four, highest first
abbrev pub number_in : List ℕ → ℕ
number_in (a ∷ []) = a
number_in (a ∷ b ∷ []) = from_be_bytes w16 (a ∷ b ∷ [])
number_in (a ∷ b ∷ c ∷ d ∷ []) = from_be_bytes w32 (a ∷ b ∷ c ∷ d ∷ [])
number_in _ = 0

-- a text after a space, if there is one
abbrev pub spaced : List ℕ → List ℕ
spaced [] = []
spaced (c ∷ characters) = codes " " ++ c ∷ characters

-- a number, and its name if it has one
abbrev pub numbered : List ℕ → ℕ → List ℕ
numbered name n = codes " " ++ (decimal n ++ spaced name)

-- ---- numbers

-- the fields that are a number
abbrev pub is_number : FieldKind → Bool
is_number FieldKind.MessageLength = true
is_number FieldKind.MessageType = true
is_number FieldKind.Version = true
is_number FieldKind.MyAs = true
is_number FieldKind.HoldTime = true
is_number FieldKind.ParametersLength = true
is_number FieldKind.ParameterType = true
is_number FieldKind.ParameterLength = true
is_number FieldKind.CapabilityCode = true
is_number FieldKind.CapabilityLength = true
is_number FieldKind.Afi = true
is_number FieldKind.Safi = true
is_number FieldKind.AsNumber = true
is_number FieldKind.WithdrawnLength = true
is_number FieldKind.AttributesLength = true
is_number FieldKind.AttributeType = true
is_number FieldKind.AttributeLength = true
is_number FieldKind.Origin = true
is_number FieldKind.SegmentType = true
is_number FieldKind.SegmentCount = true
is_number FieldKind.Med = true
is_number FieldKind.LocalPref = true
is_number FieldKind.NextHopLength = true
is_number FieldKind.ErrorCode = true
is_number FieldKind.PathIdentifier = true
is_number FieldKind.Subtype = true
is_number _ = false

-- the name in the registry for a ROUTE-REFRESH's subtype (RFC 7313, section 6)
unfoldable pub subtype_name : ℕ → List ℕ
subtype_name n = named (
    (0, codes "Route-Refresh") ∷ (
    (1, codes "BoRR") ∷ (
    (2, codes "EoRR") ∷ (
    (255, codes "Reserved") ∷ [])))) n

-- the name in the registries for a field of one octet
abbrev pub octet_name : FieldKind → ℕ → List ℕ
octet_name FieldKind.MessageType n = message_name n
octet_name FieldKind.ParameterType n = parameter_name n
octet_name FieldKind.CapabilityCode n = capability_name n
octet_name FieldKind.Safi n = safi_name n
octet_name FieldKind.AttributeType n = attribute_name n
octet_name FieldKind.Origin n = origin_name n
octet_name FieldKind.SegmentType n = segment_name n
octet_name FieldKind.ErrorCode n = error_name n
octet_name FieldKind.Subtype n = subtype_name n
octet_name _ n = []

-- the name for one of two octets
abbrev pub pair_name : FieldKind → ℕ → List ℕ
pair_name FieldKind.Afi n = afi_name n
pair_name _ n = []

-- the name for the number in a field
abbrev pub number_name : FieldKind → List ℕ → List ℕ
number_name kind (a ∷ []) = octet_name kind a
number_name kind (a ∷ b ∷ []) = pair_name kind (from_be_bytes w16 (a ∷ b ∷ []))
number_name kind _ = []

-- ---- addresses and prefixes: those of IPv6 in the form of RFC 5952

abbrev pub address_text : List ℕ → List ℕ
address_text b =
    if length b == 4 then codes " " ++ ipv4_address_text b else (
    if length b == 16 then codes " " ++ ip6_text b else
    [])

abbrev pub prefix6_text : PrefixValue → List ℕ
prefix6_text p = codes " " ++ (ip6_text p.addr ++ (codes "/" ++ decimal p.len))

abbrev pub prefixes4_text : List ℕ → List ℕ
prefixes4_text b = flat_map (λ p. codes " " ++ ipv4_text p) (run_of 4 b).0

abbrev pub prefixes6_text : List ℕ → List ℕ
prefixes6_text b = flat_map prefix6_text (run_of 16 b).0

-- ---- attributes

-- the flags by name (RFC 4271, section 4.3)
abbrev pub flags_text : ℕ → List ℕ
flags_text flags =
    (if is_optional flags then codes " optional" else codes " well-known") ++ ((if is_transitive flags then codes " transitive" else codes " non-transitive")
    ++ ((if is_partial flags then codes " partial" else []) ++ (if is_extended flags then codes " extended" else [])))

-- a community, and its name if it is well-known
abbrev pub named_community : ℕ → List ℕ
named_community n = community_text n ++ spaced (community_name n)

-- three numbers of four octets
abbrev pub large_value : List ℕ → List ℕ
large_value b = large_text (number_in (take 4 b) ∷ number_in (take 4 (drop 4 b)) ∷ number_in (drop 8 b) ∷ [])

-- ---- NOTIFICATIONs: the code and the subcode follow the header

abbrev pub code_in : List ℕ → ℕ
code_in message = slice_index message 19

abbrev pub subcode_in : List ℕ → ℕ
subcode_in message = slice_index message 20

-- text from a peer, as a string
abbrev pub said_text : List ℕ → List ℕ
said_text [] = []
said_text (c ∷ characters) = codes " " ++ escaped_string (c ∷ characters)

-- ---- all

-- the value of a field that isn't only a number, or whose meaning depends on the octets before it
abbrev pub other_text : List ℕ → FieldKind → List ℕ → List ℕ
other_text message FieldKind.Identifier b = address_text b
other_text message FieldKind.Address b = address_text b
other_text message FieldKind.NextHop b = address_text b
other_text message FieldKind.LinkLocal b = address_text b
other_text message FieldKind.WithdrawnPrefix b = prefixes4_text b
other_text message FieldKind.UnreachPrefix4 b = prefixes4_text b
other_text message FieldKind.ReachPrefix4 b = prefixes4_text b
other_text message FieldKind.NlriPrefix b = prefixes4_text b
other_text message FieldKind.UnreachPrefix6 b = prefixes6_text b
other_text message FieldKind.ReachPrefix6 b = prefixes6_text b
other_text message FieldKind.AttributeFlags b = flags_text (slice_index b 0)
other_text message FieldKind.Community b = named_community (number_in b)
other_text message FieldKind.LargeCommunity b = large_value b
other_text message FieldKind.ErrorSubcode b = numbered (subcode_name (code_in message) (subcode_in message)) (number_in b)
other_text message FieldKind.Data b = said_text (shutdown_text (code_in message) (subcode_in message) b)
other_text message _ b = []

-- the value of a field's octets, in a message
unfoldable pub value_text : List ℕ → FieldKind → List ℕ → List ℕ
value_text message kind b =
    if is_number kind then numbered (number_name kind b) (number_in b) else other_text message kind b
