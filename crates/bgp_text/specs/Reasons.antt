-- What was expected where a message is at fault, and which of an attribute's fields is at fault.
use Rattle.std.specs.Prelude.{ℕ, ◌+◌, ◌*◌, ◌==◌, ◌&&◌, ◌||◌, nat_lt, nat_le, Bool, true, false, List, [], ◌∷◌, slice_index, codes, Option, None, Some, if◌then◌else◌}
use Rattle.bgp_fields.specs.declared.field.Group.{Group}
use Rattle.bgp_names.specs.Names.{named}
use Rattle.bgp_text.specs.Below.{Cause, Field, FieldKind, Note, Why, is_extended, octets_in}
use Rattle.bgp_text.specs.FieldValues.{number_in}

-- ---- what was expected

-- the flags of an attribute of a type (RFC 4271, section 5; RFC 4760, RFC 6793, RFC 1997, RFC 8092)
unfoldable pub flags_wanted : ℕ → List ℕ
flags_wanted kind = named (
    (1, codes "well-known transitive") ∷ (
    (2, codes "well-known transitive") ∷ (
    (3, codes "well-known transitive") ∷ (
    (4, codes "optional non-transitive") ∷ (
    (5, codes "well-known transitive") ∷ (
    (6, codes "well-known transitive") ∷ (
    (7, codes "optional transitive") ∷ (
    (8, codes "optional transitive") ∷ (
    (14, codes "optional non-transitive") ∷ (
    (15, codes "optional non-transitive") ∷ (
    (17, codes "optional transitive") ∷ (
    (18, codes "optional transitive") ∷ (
    (32, codes "optional transitive") ∷ []))))))))))))) kind

-- the length of its value
unfoldable pub length_wanted : ℕ → List ℕ
length_wanted kind = named (
    (1, codes "1") ∷ (
    (3, codes "4") ∷ (
    (4, codes "4") ∷ (
    (5, codes "4") ∷ (
    (6, codes "0") ∷ (
    (7, codes "6, or 8 with AS numbers of four octets") ∷ (
    (8, codes "a multiple of 4, above 0") ∷ (
    (17, codes "a multiple of 2, at least 6") ∷ (
    (18, codes "8") ∷ (
    (32, codes "a multiple of 12, above 0") ∷ [])))))))))) kind

-- what was expected of an attribute of a type that has a note
unfoldable pub note_wanted : ℕ → Why → List ℕ
note_wanted kind Why.Flags = flags_wanted kind
note_wanted kind Why.Length = length_wanted kind
note_wanted kind Why.Value = codes "0 to 2"
note_wanted kind Why.SegmentType = if kind == 17 then codes "1 to 4" else codes "1 or 2"
note_wanted kind Why.SegmentCount = codes "at least 1"
note_wanted kind Why.SegmentEnd = codes "a type, a length, and as many AS numbers"
note_wanted kind Why.Repeated = codes "one of each type"
note_wanted kind Why.External = codes "none from an external peer"
note_wanted kind Why.FourOctet = codes "none where both sides have AS numbers of four octets"
note_wanted kind Why.Family = codes "a family that both sides agreed on"
note_wanted kind Why.Unneeded = codes "none without NLRI"
note_wanted kind Why.Emptied = codes "a segment that isn't of a confederation"
note_wanted kind Why.Cut = codes "an end inside the attributes"
note_wanted kind Why.Missing = codes "one with these routes"
note_wanted kind Why.AsZero = codes "an AS number above 0"

-- of a header, by the subcode of the NOTIFICATION
unfoldable pub header_wanted : ℕ → List ℕ
header_wanted subcode = named (
    (1, codes "sixteen octets ff") ∷ (
    (2, codes "19 to 4096, and what the type needs") ∷ (
    (3, codes "1 to 4, or 5 where the receiver offers ROUTE-REFRESH") ∷ []))) subcode

-- of an OPEN
unfoldable pub open_wanted : ℕ → List ℕ
open_wanted subcode = named (
    (0, codes "a length that fits") ∷ (
    (1, codes "4") ∷ (
    (3, codes "an identifier above 0") ∷ (
    (4, codes "2") ∷ (
    (6, codes "0, or at least 3") ∷ []))))) subcode

-- of a message that causes a NOTIFICATION with a subcode
unfoldable pub cause_wanted : Cause → ℕ → List ℕ
cause_wanted Cause.Header subcode = header_wanted subcode
cause_wanted Cause.Open subcode = open_wanted subcode
cause_wanted Cause.Lengths subcode = codes "an end inside the message"
cause_wanted Cause.Prefix subcode = codes "a length of at most 32, and its octets"
cause_wanted Cause.WellKnown subcode = codes "a known type, or the Optional bit"
cause_wanted Cause.SecondRoutes subcode = codes "one of each type"
cause_wanted Cause.CutRoutes subcode = codes "an end inside the attributes"
cause_wanted Cause.RouteFlags subcode = codes "optional non-transitive"
cause_wanted Cause.RouteLength subcode = codes "a family, a next hop, and prefixes of at most 32 bits, or 128 of IPv6"
cause_wanted Cause.NextHop subcode = codes "4 for IPv4, 16 or 32 for IPv6"
cause_wanted Cause.RoutePrefix subcode = codes "a family, a next hop, and prefixes of at most 32 bits, or 128 of IPv6"
cause_wanted Cause.NothingAnnounced subcode = codes "routes that can be withdrawn"

-- ---- where a note is reported

abbrev pub is_flags : FieldKind → Bool
is_flags FieldKind.AttributeFlags = true
is_flags _ = false

abbrev pub is_type : FieldKind → Bool
is_type FieldKind.AttributeType = true
is_type _ = false

abbrev pub is_length : FieldKind → Bool
is_length FieldKind.AttributeLength = true
is_length _ = false

-- a field of the value
abbrev pub is_value : FieldKind → Bool
is_value FieldKind.AttributeFlags = false
is_value FieldKind.AttributeType = false
is_value FieldKind.AttributeLength = false
is_value _ = true

abbrev pub is_segment : FieldKind → Bool
is_segment FieldKind.SegmentType = true
is_segment _ = false

abbrev pub is_count : FieldKind → Bool
is_count FieldKind.SegmentCount = true
is_count _ = false

abbrev pub is_unread : FieldKind → Bool
is_unread FieldKind.Unread = true
is_unread _ = false

abbrev pub is_as : FieldKind → Bool
is_as FieldKind.AsNumber = true
is_as _ = false

abbrev pub is_family : FieldKind → Bool
is_family FieldKind.Afi = true
is_family _ = false

-- a type of segment that the attribute can't have: AS4_PATH may have those of confederations too, which are dropped (RFC 6793, section 6)
abbrev pub is_strange : ℕ → ℕ → Bool
is_strange kind n = (n == 0) || nat_lt (if kind == 17 then 4 else 2) n

-- a field of this kind, with these octets, is the one at fault in an attribute of a type
abbrev pub is_blamed : Why → ℕ → List ℕ → FieldKind → Bool
is_blamed Why.Flags kind b f = is_flags f
is_blamed Why.Length kind b f = is_length f
is_blamed Why.Value kind b f = is_value f
is_blamed Why.SegmentType kind b f = is_segment f && is_strange kind (number_in b)
is_blamed Why.SegmentCount kind b f = is_count f && (number_in b == 0)
is_blamed Why.SegmentEnd kind b f = is_unread f
is_blamed Why.Repeated kind b f = is_type f
is_blamed Why.External kind b f = is_type f
is_blamed Why.FourOctet kind b f = is_type f
is_blamed Why.Family kind b f = is_family f
is_blamed Why.Unneeded kind b f = is_type f
is_blamed Why.Emptied kind b f = is_type f
is_blamed Why.Cut kind b f = is_length f
is_blamed Why.Missing kind b f = false
is_blamed Why.AsZero kind b f = is_as f && (number_in b == 0)

-- the offset in the message of the attribute of a note, whose own offset is that in the body
abbrev pub note_place : Note → ℕ
note_place n = n.at + 19

-- where its value ends, by its length field of one octet or two (RFC 4271, section 4.3)
abbrev pub note_end : List ℕ → Note → ℕ
note_end message n =
    if is_extended (slice_index message (note_place n))
    then note_place n + (4 + (slice_index message (note_place n + 2) * 256 + slice_index message (note_place n + 3)))
    else note_place n + (3 + slice_index message (note_place n + 2))

-- the field is of the attribute that begins at this offset
abbrev pub is_in : ℕ → Option Group → Bool
is_in place None = false
is_in place (Some group) = group.at == place

-- the note has an offset, and the field is of its attribute
abbrev pub is_of : Note → Field → Bool
is_of n f = nat_lt 0 n.at && is_in (note_place n) f.group

-- the field of its attribute at which a note is reported: the one at fault, else the last one
abbrev pub is_wrong : List ℕ → Note → Field → Bool
is_wrong message n f = is_blamed n.why n.kind (octets_in message f) f.kind || nat_le (note_end message n) (f.at + f.len)

-- A note is reported at such a field, or, where its attribute has none, at the first field after it.
abbrev pub is_at : List ℕ → Note → Field → Bool
is_at message n f =
    if is_of n f then is_wrong message n f else (
    nat_lt 0 n.at && nat_lt (note_place n) f.at)
