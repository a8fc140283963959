-- The next field of a message (RFC 4271, section 4; RFC 2918, 4760, 5492, 6793, 7313, 7911 and 8092): a row for each part.
use Rattle.std.specs.Prelude.{ℕ, ◌+◌, ◌-◌, ◌*◌, Bool, true, false, ◌||◌, ◌&&◌, ◌==◌, nat_le, nat_lt, List, [], ◌∷◌, length, slice_index, Option, None, Some, if◌then◌else◌}
use Rattle.std.specs.Int.{w16, from_be_bytes}
use Rattle.bgp_numbers.specs.declared.attribute.TheConstants.{ORIGIN, AS_PATH, NEXT_HOP, MULTI_EXIT_DISC, LOCAL_PREF, ATOMIC_AGGREGATE, AGGREGATOR, COMMUNITIES, MP_REACH_NLRI, MP_UNREACH_NLRI, AS4_PATH, AS4_AGGREGATOR, LARGE_COMMUNITY}
use Rattle.bgp_numbers.specs.declared.capability.TheConstants.{MULTIPROTOCOL, FOUR_OCTET_AS}
use Rattle.bgp_numbers.specs.declared.parameter.TheConstants.{CAPABILITIES}
use Rattle.bgp_numbers.specs.declared.segment.TheConstants.{SET, SEQUENCE, CONFED_SEQUENCE, CONFED_SET}
use Rattle.bgp_numbers.specs.declared.afi.TheConstants.{IPV4, IPV6}
use Rattle.bgp_numbers.specs.declared.safi.TheConstants.{UNICAST}
use Rattle.bgp_frame.specs.declared.kind.Kind.{Kind}
use Rattle.bgp_frame.specs.Prelude.{kind_of}
use Rattle.bgp_open.specs.declared.context.Context.{Context}
use Rattle.bgp_prefix.specs.Prelude.{octets_for}
use Rattle.bgp_attr.specs.Prelude.{number_width, is_extended, length_width, entry_of}
use Rattle.bgp_paths.specs.declared.families.PathFamilies.{PathFamilies}
use Rattle.bgp_fields.specs.declared.kind.FieldKind.{FieldKind}
use Rattle.bgp_fields.specs.declared.part.MessagePart.{MessagePart}
use Rattle.bgp_fields.specs.declared.part.SectionPart.{SectionPart}
use Rattle.bgp_fields.specs.declared.part.ValuePart.{ValuePart}
use Rattle.bgp_fields.specs.declared.reading.Reading.{Reading}
use Rattle.bgp_fields.specs.Walk.{Plan}

-- ---- words of the tables

-- the numbers in the first octet, in the second, and in the first two
abbrev pub first_of : List ℕ → ℕ
first_of b = slice_index b 0

abbrev pub second_of : List ℕ → ℕ
second_of b = slice_index b 1

abbrev pub two_of : List ℕ → ℕ
two_of b = from_be_bytes w16 (first_of b ∷ second_of b ∷ [])

-- the length of a prefix's encoding, including its length octet: 0 where the address has fewer bits
abbrev pub prefix_len : ℕ → ℕ → ℕ
prefix_len width l = if nat_le l (8 * width) then 1 + octets_for l else 0

-- a field of n octets, and what follows it
abbrev pub leaf : {I S : Type 0} → I → FieldKind → ℕ → S → Plan I S
leaf none kind n next = record { kind = kind; len = n; begins = None; inner = none; inner_len = 0; next = next }

-- the same, of one octet, which begins an attribute, a parameter or a capability of this code
abbrev pub opening : {I S : Type 0} → I → FieldKind → ℕ → S → Plan I S
opening none kind code next = record { kind = kind; len = 1; begins = Some code; inner = none; inner_len = 0; next = next }

-- a length field of n octets, the octets inside, and what follows
abbrev pub behind : {I S : Type 0} → FieldKind → ℕ → I → ℕ → S → Plan I S
behind kind n inner inner_len next = record { kind = kind; len = n; begins = None; inner = inner; inner_len = inner_len; next = next }

-- ---- path identifiers (RFC 7911)

-- a context in which no routes have them
abbrev pub plain_reading : Context → Reading
plain_reading ctx = record { ctx = ctx; paths = None }

-- the routes of IPv6 have them, or those of IPv4
abbrev pub are_identified : Option PathFamilies → Bool → Bool
are_identified None ip6 = false
are_identified (Some families) ip6 = if ip6 then families.ip6 else families.ip4

-- ---- values of attributes and parameters

-- the first part of an attribute's value, by its type
abbrev pub attribute_values : Context → List (ℕ × ValuePart)
attribute_values ctx =
    (ORIGIN, ValuePart.One FieldKind.Origin 1) ∷
    (AS_PATH, ValuePart.Segment ctx.as4 false) ∷
    (NEXT_HOP, ValuePart.One FieldKind.Address 4) ∷
    (MULTI_EXIT_DISC, ValuePart.One FieldKind.Med 4) ∷
    (LOCAL_PREF, ValuePart.One FieldKind.LocalPref 4) ∷
    (ATOMIC_AGGREGATE, ValuePart.All FieldKind.Unread) ∷
    (AGGREGATOR, ValuePart.Aggregator ctx.as4) ∷
    (COMMUNITIES, ValuePart.Row FieldKind.Community 4) ∷
    (MP_REACH_NLRI, ValuePart.Afi true) ∷
    (MP_UNREACH_NLRI, ValuePart.Afi false) ∷
    (AS4_PATH, ValuePart.Segment true true) ∷
    (AS4_AGGREGATOR, ValuePart.Aggregator true) ∷
    (LARGE_COMMUNITY, ValuePart.Row FieldKind.LargeCommunity 12) ∷ []

abbrev pub attribute_value : Context → ℕ → ValuePart
attribute_value ctx type = entry_of type (attribute_values ctx) (ValuePart.All FieldKind.AttributeValue)

-- segments of this type are read: those of confederations only in an AS4_PATH (RFC 6793, section 3)
abbrev pub is_segment : Bool → ℕ → Bool
is_segment confederations code = (code == SET) || ((code == SEQUENCE) || (confederations && ((code == CONFED_SEQUENCE) || (code == CONFED_SET))))

-- what follows the count of a segment, where n octets are left including the count: that number of AS numbers, at least one
abbrev pub numbers_behind : Bool → Bool → ℕ → ℕ → ValuePart
numbers_behind wide confederations count n =
    if nat_lt 0 count && nat_le (1 + count * number_width wide) n then ValuePart.Numbers wide confederations count else ValuePart.All FieldKind.Unread

-- what follows an AS number, where this number was left including it
abbrev pub behind_number : Bool → Bool → ℕ → ValuePart
behind_number wide confederations left =
    if nat_lt 1 left then ValuePart.Numbers wide confederations (left - 1) else ValuePart.Segment wide confederations

-- what follows the family of MP_REACH_NLRI or MP_UNREACH_NLRI, where it is in use (RFC 4760, sections 3 and 4)
abbrev pub behind_family : Context → Bool → ℕ → ℕ → ValuePart
behind_family ctx reach afi safi =
    if (safi == UNICAST) && ((afi == IPV4) && ctx.ip4)
    then (if reach then ValuePart.NextHopLength false else ValuePart.Prefixes FieldKind.UnreachPrefix4 false) else (
    if (safi == UNICAST) && ((afi == IPV6) && ctx.ip6)
    then (if reach then ValuePart.NextHopLength true else ValuePart.Prefixes FieldKind.UnreachPrefix6 true) else
    ValuePart.All FieldKind.Unread)

-- what follows the length of a next hop: one address, and for IPv6 it may be two (RFC 2545, section 3)
abbrev pub hop_behind : Bool → ℕ → ValuePart
hop_behind true n = if (n == 16) || (n == 32) then ValuePart.NextHop true n else ValuePart.All FieldKind.Unread
hop_behind false n = if n == 4 then ValuePart.NextHop false n else ValuePart.All FieldKind.Unread

abbrev pub reach_prefixes : Bool → ValuePart
reach_prefixes true = ValuePart.Prefixes FieldKind.ReachPrefix6 true
reach_prefixes false = ValuePart.Prefixes FieldKind.ReachPrefix4 false

-- the length of an address
abbrev pub width_of : Bool → ℕ
width_of ip6 = if ip6 then 16 else 4

-- the value of a capability: those of two codes have four octets (RFC 4760, section 8; RFC 6793, section 3)
abbrev pub capability_value : ℕ → ℕ → ValuePart
capability_value code n =
    if code == MULTIPROTOCOL then (if n == 4 then ValuePart.CapabilityAfi else ValuePart.Capability FieldKind.Unread n) else (
    if code == FOUR_OCTET_AS then (if n == 4 then ValuePart.Capability FieldKind.AsNumber n else ValuePart.Capability FieldKind.Unread n) else
    ValuePart.Capability FieldKind.CapabilityValue n)

-- what follows the length of a capability, where n octets are left including the length
abbrev pub capability_behind : ℕ → ℕ → ℕ → ValuePart
capability_behind code len n =
    if nat_lt n (1 + len) then ValuePart.All FieldKind.Unread else (
    if len == 0 then ValuePart.CapabilityCode else
    capability_value code len)

-- one field of n octets, with nothing inside
abbrev pub one : FieldKind → ℕ → ValuePart → Plan (Unit {0}) ValuePart
one kind n next = leaf tt kind n next

-- a next hop of n octets, or the first address where there are two
abbrev pub hop_plan : Bool → ℕ → Plan (Unit {0}) ValuePart
hop_plan ip6 n = if n == 32 then one FieldKind.NextHop 16 ValuePart.LinkLocal else one FieldKind.NextHop n (ValuePart.Reserved ip6)

-- the next field of routes: a path identifier, where they have some, else a prefix of this length in bits, a field of this kind
abbrev pub routes_plan : Option PathFamilies → FieldKind → Bool → ℕ → Plan (Unit {0}) ValuePart
routes_plan paths kind ip6 bits =
    if are_identified paths ip6 then one FieldKind.PathIdentifier 4 (ValuePart.PathPrefix kind ip6) else
    one kind (prefix_len (width_of ip6) bits) (ValuePart.Prefixes kind ip6)

-- the next field of the value of an attribute or of a parameter
abbrev pub value_plan_in : Reading → ValuePart → List ℕ → Plan (Unit {0}) ValuePart
value_plan_in r (ValuePart.One kind n) b = one kind n (ValuePart.All FieldKind.Unread)
value_plan_in r (ValuePart.Row kind n) b = one kind n (ValuePart.Row kind n)
value_plan_in r (ValuePart.Prefixes kind ip6) b = routes_plan r.paths kind ip6 (first_of b)
value_plan_in r (ValuePart.PathPrefix kind ip6) b = one kind (prefix_len (width_of ip6) (first_of b)) (ValuePart.Prefixes kind ip6)
value_plan_in r (ValuePart.Aggregator wide) b = one FieldKind.AsNumber (number_width wide) (ValuePart.One FieldKind.Address 4)
value_plan_in r (ValuePart.Segment wide confederations) b =
    one FieldKind.SegmentType (if is_segment confederations (first_of b) then 1 else 0) (ValuePart.SegmentCount wide confederations)
value_plan_in r (ValuePart.SegmentCount wide confederations) b =
    one FieldKind.SegmentCount 1 (numbers_behind wide confederations (first_of b) (length b))
value_plan_in r (ValuePart.Numbers wide confederations left) b =
    one FieldKind.AsNumber (number_width wide) (behind_number wide confederations left)
value_plan_in r (ValuePart.Afi reach) b = one FieldKind.Afi 2 (ValuePart.Safi reach (two_of b))
value_plan_in r (ValuePart.Safi reach afi) b = one FieldKind.Safi 1 (behind_family r.ctx reach afi (first_of b))
value_plan_in r (ValuePart.NextHopLength ip6) b = one FieldKind.NextHopLength 1 (hop_behind ip6 (first_of b))
value_plan_in r (ValuePart.NextHop ip6 n) b = hop_plan ip6 n
value_plan_in r ValuePart.LinkLocal b = one FieldKind.LinkLocal 16 (ValuePart.Reserved true)
value_plan_in r (ValuePart.Reserved ip6) b = one FieldKind.Reserved 1 (reach_prefixes ip6)
value_plan_in r ValuePart.CapabilityCode b = opening tt FieldKind.CapabilityCode (first_of b) (ValuePart.CapabilityLength (first_of b))
value_plan_in r (ValuePart.CapabilityLength code) b = one FieldKind.CapabilityLength 1 (capability_behind code (first_of b) (length b))
value_plan_in r (ValuePart.Capability kind n) b = one kind n ValuePart.CapabilityCode
value_plan_in r ValuePart.CapabilityAfi b = one FieldKind.Afi 2 ValuePart.CapabilityReserved
value_plan_in r ValuePart.CapabilityReserved b = one FieldKind.Reserved 1 ValuePart.CapabilitySafi
value_plan_in r ValuePart.CapabilitySafi b = one FieldKind.Safi 1 ValuePart.CapabilityCode
value_plan_in r (ValuePart.All kind) b = one kind (length b) (ValuePart.All FieldKind.Unread)

-- the same without path identifiers
abbrev pub value_plan : Context → ValuePart → List ℕ → Plan (Unit {0}) ValuePart
value_plan ctx = value_plan_in (plain_reading ctx)

-- ---- Withdrawn Routes, Path Attributes and Optional Parameters

-- what is inside a parameter (RFC 5492, section 4)
abbrev pub parameter_value : ℕ → ValuePart
parameter_value code = if code == CAPABILITIES then ValuePart.CapabilityCode else ValuePart.All FieldKind.Unread

-- the value of the length field of an attribute with these flags: two octets where the Extended Length bit is set, else one (RFC 4271, section 4.3)
abbrev pub attribute_len : ℕ → List ℕ → ℕ
attribute_len flags b = if is_extended flags then two_of b else first_of b

-- for a field that is no length
abbrev pub nothing_inside : ValuePart
nothing_inside = ValuePart.All FieldKind.Unread

-- the next field of Withdrawn Routes: a path identifier, where the routes have some, else a prefix of this length in bits
abbrev pub withdrawn_plan : Option PathFamilies → ℕ → Plan ValuePart SectionPart
withdrawn_plan paths bits =
    if are_identified paths false then leaf nothing_inside FieldKind.PathIdentifier 4 SectionPart.WithdrawnPrefix else
    leaf nothing_inside FieldKind.WithdrawnPrefix (prefix_len 4 bits) SectionPart.Withdrawn

-- the next field of a section
abbrev pub section_plan_in : Reading → SectionPart → List ℕ → Plan ValuePart SectionPart
section_plan_in r SectionPart.Withdrawn b = withdrawn_plan r.paths (first_of b)
section_plan_in r SectionPart.WithdrawnPrefix b = leaf nothing_inside FieldKind.WithdrawnPrefix (prefix_len 4 (first_of b)) SectionPart.Withdrawn
section_plan_in r SectionPart.ParameterType b = opening nothing_inside FieldKind.ParameterType (first_of b) (SectionPart.ParameterLength (first_of b))
section_plan_in r (SectionPart.ParameterLength code) b =
    behind FieldKind.ParameterLength 1 (parameter_value code) (first_of b) SectionPart.ParameterType
section_plan_in r SectionPart.AttributeFlags b = opening nothing_inside FieldKind.AttributeFlags (second_of b) (SectionPart.AttributeType (first_of b))
section_plan_in r (SectionPart.AttributeType flags) b = leaf nothing_inside FieldKind.AttributeType 1 (SectionPart.AttributeLength flags (first_of b))
section_plan_in r (SectionPart.AttributeLength flags code) b =
    behind FieldKind.AttributeLength (length_width flags) (attribute_value r.ctx code) (attribute_len flags b) SectionPart.AttributeFlags
section_plan_in r (SectionPart.All kind) b = leaf nothing_inside kind (length b) (SectionPart.All FieldKind.Unread)

-- the same without path identifiers
abbrev pub section_plan : Context → SectionPart → List ℕ → Plan ValuePart SectionPart
section_plan ctx = section_plan_in (plain_reading ctx)

-- ---- messages

-- the first part of a body, by the type of its message
abbrev pub body_part : Option Kind → MessagePart
body_part (Some Kind.Open) = MessagePart.Version
body_part (Some Kind.Update) = MessagePart.WithdrawnLength
body_part (Some Kind.Notification) = MessagePart.ErrorCode
body_part _ = MessagePart.All FieldKind.Unread

abbrev pub nothing_in_section : SectionPart
nothing_in_section = SectionPart.All FieldKind.Unread

-- one field without a section
abbrev pub alone : FieldKind → ℕ → MessagePart → Plan SectionPart MessagePart
alone kind n next = leaf nothing_in_section kind n next

-- the length of a ROUTE-REFRESH's AFI, which begins the body: 0 where that has fewer than four octets
abbrev pub afi_len : List ℕ → ℕ
afi_len b = if nat_lt (length b) 4 then 0 else 2

-- the next field of NLRI: a path identifier, where its routes have some, else a prefix of this length in bits
abbrev pub nlri_plan : Option PathFamilies → ℕ → Plan SectionPart MessagePart
nlri_plan paths bits =
    if are_identified paths false then alone FieldKind.PathIdentifier 4 MessagePart.NlriPrefix else
    alone FieldKind.NlriPrefix (prefix_len 4 bits) MessagePart.Nlri

-- the next field of a message
abbrev pub message_plan_in : Option PathFamilies → MessagePart → List ℕ → Plan SectionPart MessagePart
message_plan_in paths MessagePart.Marker b = alone FieldKind.Marker 16 MessagePart.Length
message_plan_in paths MessagePart.Length b = alone FieldKind.MessageLength 2 MessagePart.Kind
message_plan_in paths MessagePart.Kind b = alone FieldKind.MessageType 1 (body_part (kind_of (first_of b)))
message_plan_in paths MessagePart.Version b = alone FieldKind.Version 1 MessagePart.MyAs
message_plan_in paths MessagePart.MyAs b = alone FieldKind.MyAs 2 MessagePart.HoldTime
message_plan_in paths MessagePart.HoldTime b = alone FieldKind.HoldTime 2 MessagePart.Identifier
message_plan_in paths MessagePart.Identifier b = alone FieldKind.Identifier 4 MessagePart.ParametersLength
message_plan_in paths MessagePart.ParametersLength b = behind FieldKind.ParametersLength 1 SectionPart.ParameterType (first_of b) (MessagePart.All FieldKind.Unread)
message_plan_in paths MessagePart.WithdrawnLength b = behind FieldKind.WithdrawnLength 2 SectionPart.Withdrawn (two_of b) MessagePart.AttributesLength
message_plan_in paths MessagePart.AttributesLength b = behind FieldKind.AttributesLength 2 SectionPart.AttributeFlags (two_of b) MessagePart.Nlri
message_plan_in paths MessagePart.Nlri b = nlri_plan paths (first_of b)
message_plan_in paths MessagePart.NlriPrefix b = alone FieldKind.NlriPrefix (prefix_len 4 (first_of b)) MessagePart.Nlri
message_plan_in paths MessagePart.ErrorCode b = alone FieldKind.ErrorCode 1 MessagePart.ErrorSubcode
message_plan_in paths MessagePart.ErrorSubcode b = alone FieldKind.ErrorSubcode 1 (MessagePart.All FieldKind.Data)
message_plan_in paths MessagePart.RefreshMarker b = alone FieldKind.Marker 16 MessagePart.RefreshLength
message_plan_in paths MessagePart.RefreshLength b = alone FieldKind.MessageLength 2 MessagePart.RefreshType
message_plan_in paths MessagePart.RefreshType b = alone FieldKind.MessageType 1 MessagePart.RefreshAfi
message_plan_in paths MessagePart.RefreshAfi b = alone FieldKind.Afi (afi_len b) MessagePart.RefreshSubtype
message_plan_in paths MessagePart.RefreshSubtype b = alone FieldKind.Subtype 1 MessagePart.RefreshSafi
message_plan_in paths MessagePart.RefreshSafi b = alone FieldKind.Safi 1 (MessagePart.All FieldKind.Unread)
message_plan_in paths (MessagePart.All kind) b = alone kind (length b) (MessagePart.All FieldKind.Unread)

-- the same without path identifiers
abbrev pub message_plan : MessagePart → List ℕ → Plan SectionPart MessagePart
message_plan = message_plan_in None
