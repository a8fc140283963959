-- The one written form of an attribute: the shortest length, and 0 for all that is ignored. And which attributes aren't written.
use Rattle.std.specs.Prelude.{◌≡◌, ◌<◌, ◌^◌, ℕ, Bool, true, false, not, ◌&&◌, ◌||◌, ◌==◌, nat_lt, List, [], ◌∷◌, ◌++◌, length, map, Option, None, Some, is_none, if◌then◌else◌}
use Rattle.std.specs.List.{flat_map, list_any, AllByRecursion}
use Rattle.std.specs.Int.{w16, w32, to_be_bytes}
use Rattle.bgp_numbers.specs.declared.afi.TheConstants.{IPV4, IPV6}
use Rattle.bgp_numbers.specs.declared.safi.TheConstants.{UNICAST}
use Rattle.bgp_numbers.specs.declared.segment.TheConstants.{SET, SEQUENCE}
use Rattle.bgp_numbers.specs.declared.attribute.TheConstants as attribute
use Rattle.bgp_open.specs.declared.context.Context.{Context}
use Rattle.bgp_prefix.specs.Prelude.{PrefixValue, IsValid, spelling_of}
use Rattle.bgp_wire.specs.Prelude.{AreOctets}
use Rattle.bgp_attr.specs.declared.aggregator.Aggregator.{Aggregator}
use Rattle.bgp_attr.specs.declared.attr.Attr.{Attr}
use Rattle.bgp_attr.specs.declared.attr.Attr.TheVariants as attr
use Rattle.bgp_attr.specs.declared.class.Class.{Class}
use Rattle.bgp_attr.specs.declared.class.Class.TheVariants.{WellKnown, OptionalNonTransitive, OptionalTransitive}
use Rattle.bgp_attr.specs.declared.mp.MpReach.{MpReach}
use Rattle.bgp_attr.specs.declared.mp.MpReach.TheVariants as reach
use Rattle.bgp_attr.specs.declared.mp.MpUnreach.{MpUnreach}
use Rattle.bgp_attr.specs.declared.mp.MpUnreach.TheVariants as unreach
use Rattle.bgp_attr.specs.declared.path.SegKind.{SegKind}
use Rattle.bgp_attr.specs.declared.path.SegKind.TheVariants.{Set, Seq}
use Rattle.bgp_attr.specs.declared.path.Segment.{Segment}
use Rattle.bgp_attr.specs.declared.path.AsPath.{AsPath}
use Rattle.bgp_attr.specs.declared.unwritable.Unwritable.{Unwritable}
use Rattle.bgp_attr.specs.declared.unwritable.Unwritable.TheVariants.{AsWidth, As4, Empty, Recognised, AsZero, Twice, TooLong}
use Rattle.bgp_attr.specs.Flags.{flags_octet}
use Rattle.bgp_attr.specs.Tlv.{TlvValue, tlv_octets}
use Rattle.bgp_attr.specs.Numbers.{number_octets, row_octets, triple_octets, same_triple}
use Rattle.bgp_attr.specs.Judgement.{is_recognised}
use Rattle.bgp_attr.specs.Spelling.{origin_code, link_octets}

-- ---- the octets of values

abbrev pub segment_code : SegKind → ℕ
segment_code Set = SET
segment_code Seq = SEQUENCE

abbrev pub segment_octets : Bool → Segment → List ℕ
segment_octets wide s = segment_code s.kind ∷ length s.numbers ∷ row_octets wide (map (λ n. n.0) s.numbers)

abbrev pub path_octets : Bool → AsPath → List ℕ
path_octets wide p = flat_map (segment_octets wide) p.segments

abbrev pub aggregator_octets : Bool → Aggregator → List ℕ
aggregator_octets wide a = number_octets wide (a.asn).0 ++ a.addr

abbrev pub run_octets : List PrefixValue → List ℕ
run_octets routes = flat_map spelling_of routes

abbrev pub reach_row : ℕ → List ℕ → List PrefixValue → List ℕ
reach_row afi hop routes = to_be_bytes w16 afi ++ (UNICAST ∷ length hop ∷ (hop ++ (0 ∷ run_octets routes)))

abbrev pub reach_octets : MpReach → List ℕ
reach_octets (reach.Ip4 hop routes) = reach_row IPV4 hop routes
reach_octets (reach.Ip6 hop link routes) = reach_row IPV6 (hop ++ link_octets link) routes

abbrev pub unreach_row : ℕ → List PrefixValue → List ℕ
unreach_row afi routes = to_be_bytes w16 afi ++ (UNICAST ∷ run_octets routes)

abbrev pub unreach_octets : MpUnreach → List ℕ
unreach_octets (unreach.Ip4 routes) = unreach_row IPV4 routes
unreach_octets (unreach.Ip6 routes) = unreach_row IPV6 routes

-- ---- the form of each type

-- how an attribute is written: its type, the class of its flags, its Partial bit, and its value in a session with AS numbers of
-- four octets or of two. The Partial bit is 0 where it has no meaning for the type.
pub record Form : Type 0 where
  pub kind : ℕ
  pub class : Class
  pub partial : Bool
  pub value : Bool → List ℕ

abbrev pub form : ℕ → Class → Bool → (Bool → List ℕ) → Form
form kind class partial value = record { kind = kind; class = class; partial = partial; value = value }

abbrev pub optional_class : Bool → Class
optional_class transitive = if transitive then OptionalTransitive else OptionalNonTransitive

abbrev pub form_of : Attr → Form
form_of (attr.Origin o) = form attribute.ORIGIN WellKnown false (λ wide. origin_code o ∷ [])
form_of (attr.AsPath p) = form attribute.AS_PATH WellKnown false (λ wide. path_octets wide p)
form_of (attr.NextHop addr) = form attribute.NEXT_HOP WellKnown false (λ wide. addr)
form_of (attr.Med n) = form attribute.MULTI_EXIT_DISC OptionalNonTransitive false (λ wide. to_be_bytes w32 n)
form_of (attr.LocalPref n) = form attribute.LOCAL_PREF WellKnown false (λ wide. to_be_bytes w32 n)
form_of attr.Atomic = form attribute.ATOMIC_AGGREGATE WellKnown false (λ wide. [])
form_of (attr.Aggregator a) = form attribute.AGGREGATOR OptionalTransitive a.partial (λ wide. aggregator_octets wide a)
form_of (attr.Communities c) = form attribute.COMMUNITIES OptionalTransitive c.partial (λ wide. row_octets true c.values)
form_of (attr.MpReach r) = form attribute.MP_REACH_NLRI OptionalNonTransitive false (λ wide. reach_octets r)
form_of (attr.MpUnreach r) = form attribute.MP_UNREACH_NLRI OptionalNonTransitive false (λ wide. unreach_octets r)
form_of (attr.As4Path p) = form attribute.AS4_PATH OptionalTransitive p.partial (λ wide. path_octets true p.path)
form_of (attr.As4Aggregator a) = form attribute.AS4_AGGREGATOR OptionalTransitive a.partial (λ wide. aggregator_octets true a)
form_of (attr.Large l) = form attribute.LARGE_COMMUNITY OptionalTransitive l.partial (λ wide. flat_map triple_octets l.values)
form_of (attr.Opaque o) = form o.kind (optional_class o.transitive) o.partial (λ wide. o.value)

abbrev pub type_of : Attr → ℕ
type_of a = (form_of a).kind

abbrev pub class_of : Attr → Class
class_of a = (form_of a).class

abbrev pub partial_of : Attr → Bool
partial_of a = (form_of a).partial

abbrev pub value_octets : Context → Attr → List ℕ
value_octets ctx a = (form_of a).value ctx.as4

-- the length has a second octet exactly where the value has more than 255 octets
abbrev pub made : Class → Bool → ℕ → List ℕ → TlvValue
made class partial kind value = record {
  flags = flags_octet class partial (nat_lt 255 (length value));
  kind = kind;
  whole = tlv_octets (flags_octet class partial (nat_lt 255 (length value))) kind value;
  value = value;
}

-- the attribute as it is written
abbrev pub written_tlv : Context → Attr → TlvValue
written_tlv ctx a = made (class_of a) (partial_of a) (type_of a) (value_octets ctx a)

abbrev pub canonical : Context → Attr → List ℕ
canonical ctx a = (written_tlv ctx a).whole

-- ---- what isn't written

-- a test on each number of a path
abbrev pub any_number : (ℕ → Bool) → AsPath → Bool
any_number test p = list_any (λ s. list_any (λ n. test n.0) s.numbers) p.segments

abbrev pub is_above_two_octets : ℕ → Bool
is_above_two_octets n = nat_lt 65535 n

abbrev pub is_zero : ℕ → Bool
is_zero n = n == 0

-- an AS number that doesn't fit in two octets, where it has two
abbrev pub is_too_wide : Context → Attr → Bool
is_too_wide ctx (attr.AsPath p) = not ctx.as4 && any_number is_above_two_octets p
is_too_wide ctx (attr.Aggregator a) = not ctx.as4 && is_above_two_octets (a.asn).0
is_too_wide ctx _ = false

abbrev pub is_as4 : Attr → Bool
is_as4 (attr.As4Path p) = true
is_as4 (attr.As4Aggregator a) = true
is_as4 _ = false

-- a segment whose count can't be written
abbrev pub is_bad_segment : Segment → Bool
is_bad_segment s = (length s.numbers == 0) || nat_lt 255 (length s.numbers)

abbrev pub is_empty : Attr → Bool
is_empty (attr.AsPath p) = list_any is_bad_segment p.segments
is_empty (attr.As4Path p) = (length p.path.segments == 0) || list_any is_bad_segment p.path.segments
is_empty (attr.Communities c) = length c.values == 0
is_empty (attr.Large l) = length l.values == 0
is_empty _ = false

abbrev pub is_misnamed : Attr → Bool
is_misnamed (attr.Opaque o) = is_recognised o.kind
is_misnamed _ = false

abbrev pub has_as_zero : Attr → Bool
has_as_zero (attr.AsPath p) = any_number is_zero p
has_as_zero (attr.As4Path p) = any_number is_zero p.path
has_as_zero (attr.Aggregator a) = is_zero (a.asn).0
has_as_zero (attr.As4Aggregator a) = is_zero (a.asn).0
has_as_zero _ = false

-- one of the triples is also among those after it
abbrev pub repeats : List (List ℕ) → Bool
repeats [] = false
repeats (x ∷ xs) = list_any (same_triple x) xs || repeats xs

abbrev pub stands_twice : Attr → Bool
stands_twice (attr.Large l) = repeats l.values
stands_twice _ = false

abbrev pub is_too_long : Context → Attr → Bool
is_too_long ctx a = nat_lt 65535 (length (value_octets ctx a))

abbrev pub why_unless : Bool → Unwritable → Option Unwritable → Option Unwritable
why_unless applies why later = if applies then Some why else later

-- the first reason why the attribute isn't written in a context
abbrev pub unwritable : Context → Attr → Option Unwritable
unwritable ctx a =
    why_unless (is_too_wide ctx a) AsWidth (
    why_unless (ctx.as4 && is_as4 a) As4 (
    why_unless (is_empty a) Empty (
    why_unless (is_misnamed a) Recognised (
    why_unless (has_as_zero a) AsZero (
    why_unless (stands_twice a) Twice (
    why_unless (is_too_long ctx a) TooLong
    None))))))

abbrev pub is_writable : Context → Attr → Bool
is_writable ctx a = is_none (unwritable ctx a)

-- ---- where an attribute belongs, apart from how it is written

-- the session has no use for it, as for routes of an address family that isn't in use
abbrev pub is_out_of_place : Context → Attr → Bool
is_out_of_place ctx (attr.MpReach (reach.Ip4 hop routes)) = not ctx.ip4
is_out_of_place ctx (attr.MpReach (reach.Ip6 hop link routes)) = not ctx.ip6
is_out_of_place ctx (attr.MpUnreach (unreach.Ip4 routes)) = not ctx.ip4
is_out_of_place ctx (attr.MpUnreach (unreach.Ip6 routes)) = not ctx.ip6
is_out_of_place ctx _ = false

-- Which message an attribute belongs in: NEXT_HOP where there is NLRI, LOCAL_PREF on internal sessions, routes where their family is in use. Each
-- other attribute may be in any message.
abbrev pub Belongs : Context → Bool → Attr → Type 0
Belongs ctx has_nlri (attr.NextHop addr) = has_nlri ≡ true
Belongs ctx has_nlri (attr.LocalPref n) = ctx.internal ≡ true
Belongs ctx has_nlri (attr.MpReach (reach.Ip4 hop routes)) = ctx.ip4 ≡ true
Belongs ctx has_nlri (attr.MpReach (reach.Ip6 hop link routes)) = ctx.ip6 ≡ true
Belongs ctx has_nlri (attr.MpUnreach (unreach.Ip4 routes)) = ctx.ip4 ≡ true
Belongs ctx has_nlri (attr.MpUnreach (unreach.Ip6 routes)) = ctx.ip6 ≡ true
Belongs ctx has_nlri _ = Unit {0}

-- each number is within its field, and each address has its octets, as in each value of the program
abbrev pub IsFourOctets : ℕ → Type 0
IsFourOctets n = n < 2 ^ 32

abbrev pub HasPathRanges : AsPath → Type 0
HasPathRanges p = AllByRecursion (λ s. AllByRecursion (λ n. IsFourOctets n.0) s.numbers) p.segments

pub record IsAddress (width : ℕ) (addr : List ℕ) : Type 0 where
  pub wide : length addr ≡ width
  pub octets : AreOctets addr

pub record IsThreeNumbers (triple : List ℕ) : Type 0 where
  pub three : length triple ≡ 3
  pub small : AllByRecursion IsFourOctets triple

abbrev pub HasLinkRange : Option (List ℕ) → Type 0
HasLinkRange None = Unit {0}
HasLinkRange (Some addr) = IsAddress 16 addr

abbrev pub HasRanges : Attr → Type 0
HasRanges (attr.Origin o) = Unit {0}
HasRanges (attr.AsPath p) = HasPathRanges p
HasRanges (attr.NextHop addr) = IsAddress 4 addr
HasRanges (attr.Med n) = IsFourOctets n
HasRanges (attr.LocalPref n) = IsFourOctets n
HasRanges attr.Atomic = Unit {0}
HasRanges (attr.Aggregator a) = IsFourOctets (a.asn).0 × IsAddress 4 a.addr
HasRanges (attr.Communities c) = AllByRecursion IsFourOctets c.values
HasRanges (attr.MpReach (reach.Ip4 hop routes)) = IsAddress 4 hop × AllByRecursion (IsValid 4) routes
HasRanges (attr.MpReach (reach.Ip6 hop link routes)) = IsAddress 16 hop × HasLinkRange link × AllByRecursion (IsValid 16) routes
HasRanges (attr.MpUnreach (unreach.Ip4 routes)) = AllByRecursion (IsValid 4) routes
HasRanges (attr.MpUnreach (unreach.Ip6 routes)) = AllByRecursion (IsValid 16) routes
HasRanges (attr.As4Path p) = HasPathRanges p.path
HasRanges (attr.As4Aggregator a) = IsFourOctets (a.asn).0 × IsAddress 4 a.addr
HasRanges (attr.Large l) = AllByRecursion IsThreeNumbers l.values
HasRanges (attr.Opaque o) = (o.kind < 256) × AreOctets o.value
