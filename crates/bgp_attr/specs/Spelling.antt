-- Which octets spell which attribute (RFC 4271, section 4.3; RFC 1997, section 2; RFC 2545, section 3; RFC 4760, sections 3 and 4;
-- RFC 6793, section 3; RFC 8092, section 3). The Partial bit is kept for the types in which it has a meaning.
use Rattle.std.specs.Prelude.{◌≡◌, ◌<◌, ℕ, Bool, true, false, List, [], ◌∷◌, ◌++◌, length, Option, None, Some, IfSome}
use Rattle.std.specs.List.{flat_map}
use Rattle.std.specs.Int.{w16, to_be_bytes}
use Rattle.bgp_numbers.specs.declared.afi.TheConstants.{IPV4, IPV6}
use Rattle.bgp_numbers.specs.declared.safi.TheConstants.{UNICAST}
use Rattle.bgp_numbers.specs.declared.attribute.TheConstants as attribute
use Rattle.bgp_open.specs.declared.context.Context.{Context}
use Rattle.bgp_prefix.specs.Prelude.{PrefixValue, IsPrefix}
use Rattle.bgp_wire.specs.Prelude.{Row}
use Rattle.bgp_attr.specs.declared.aggregator.Aggregator.{Aggregator}
use Rattle.bgp_attr.specs.declared.attr.Attr.{Attr}
use Rattle.bgp_attr.specs.declared.attr.Attr.TheVariants as attr
use Rattle.bgp_attr.specs.declared.class.Class.{Class}
use Rattle.bgp_attr.specs.declared.class.Class.TheVariants.{WellKnown, OptionalNonTransitive, OptionalTransitive}
use Rattle.bgp_attr.specs.declared.communities.Communities.{Communities}
use Rattle.bgp_attr.specs.declared.communities.LargeCommunities.{LargeCommunities}
use Rattle.bgp_attr.specs.declared.mp.MpReach.{MpReach}
use Rattle.bgp_attr.specs.declared.mp.MpReach.TheVariants as reach
use Rattle.bgp_attr.specs.declared.mp.MpUnreach.{MpUnreach}
use Rattle.bgp_attr.specs.declared.mp.MpUnreach.TheVariants as unreach
use Rattle.bgp_attr.specs.declared.opaque.Opaque.{Opaque}
use Rattle.bgp_attr.specs.declared.origin.Origin.{Origin}
use Rattle.bgp_attr.specs.declared.origin.Origin.TheVariants.{Igp, Egp, Incomplete}
use Rattle.bgp_attr.specs.declared.path.As4Path.{As4Path}
use Rattle.bgp_attr.specs.declared.path.AsPath.{AsPath}
use Rattle.bgp_attr.specs.declared.path_form.PathForm.{PathForm}
use Rattle.bgp_attr.specs.Flags.{has_class, is_optional, is_transitive, is_partial}
use Rattle.bgp_attr.specs.Tlv.{TlvValue}
use Rattle.bgp_attr.specs.Numbers.{IsNumber, IsTriple, each_once}
use Rattle.bgp_attr.specs.Path.{WireSegment, IsSegment, kept_segment}
use Rattle.bgp_attr.specs.Value.{as_path_form, as4_path_form}
use Rattle.bgp_attr.specs.Judgement.{is_recognised}

-- the type, and the Optional and Transitive bits that go with it
pub record IsOfType (kind : ℕ) (class : Class) (t : TlvValue) : Type 0 where
  pub kind_is : t.kind ≡ kind
  pub class_is : has_class class t.flags ≡ true

abbrev pub origin_code : Origin → ℕ
origin_code Igp = 0
origin_code Egp = 1
origin_code Incomplete = 2

pub record IsOrigin (o : Origin) (t : TlvValue) : Type 0 where
  pub of_type : IsOfType attribute.ORIGIN WellKnown t
  pub value : t.value ≡ origin_code o ∷ []

-- a row of segments, of which those of confederations are dropped
pub record IsPath (form : PathForm) (p : AsPath) (b : List ℕ) : Type 0 where
  pub segments : List WireSegment
  pub row : Row (IsSegment form) segments b
  pub kept : p.segments ≡ flat_map kept_segment segments

pub record IsAsPath (ctx : Context) (p : AsPath) (t : TlvValue) : Type 0 where
  pub of_type : IsOfType attribute.AS_PATH WellKnown t
  pub path : IsPath (as_path_form ctx) p t.value

pub record IsNextHop (addr : List ℕ) (t : TlvValue) : Type 0 where
  pub of_type : IsOfType attribute.NEXT_HOP WellKnown t
  pub four : length addr ≡ 4
  pub value : t.value ≡ addr

-- a number of four octets
pub record IsFour (kind : ℕ) (class : Class) (n : ℕ) (t : TlvValue) : Type 0 where
  pub of_type : IsOfType kind class t
  pub value : IsNumber true n t.value

pub record IsAtomic (t : TlvValue) : Type 0 where
  pub of_type : IsOfType attribute.ATOMIC_AGGREGATE WellKnown t
  pub value : t.value ≡ []

-- an AS number and an address
pub record IsAggregator (kind : ℕ) (wide : Bool) (a : Aggregator) (t : TlvValue) : Type 0 where
  pub of_type : IsOfType kind OptionalTransitive t
  pub number : List ℕ
  pub value : t.value ≡ number ++ a.addr
  pub asn : IsNumber wide (a.asn).0 number
  pub four : length a.addr ≡ 4
  pub partial : a.partial ≡ is_partial t.flags

pub record IsCommunities (c : Communities) (t : TlvValue) : Type 0 where
  pub of_type : IsOfType attribute.COMMUNITIES OptionalTransitive t
  pub row : Row (IsNumber true) c.values t.value
  pub some : 0 < length c.values
  pub partial : c.partial ≡ is_partial t.flags

-- a row of triples, kept without duplicates (RFC 8092, section 3)
pub record IsLarge (l : LargeCommunities) (t : TlvValue) : Type 0 where
  pub of_type : IsOfType attribute.LARGE_COMMUNITY OptionalTransitive t
  pub triples : List (List ℕ)
  pub row : Row IsTriple triples t.value
  pub some : 0 < length triples
  pub values : l.values ≡ each_once triples
  pub partial : l.partial ≡ is_partial t.flags

-- a family, the length of the next hop, the next hop, a reserved octet of any value, and a row of prefixes
pub record IsReach (afi width : ℕ) (hop : List ℕ) (routes : List PrefixValue) (b : List ℕ) : Type 0 where
  pub reserved : ℕ
  pub row : List ℕ
  pub octets : b ≡ to_be_bytes w16 afi ++ (UNICAST ∷ length hop ∷ (hop ++ (reserved ∷ row)))
  pub prefixes : Row (IsPrefix width) routes row

-- the octets of the link-local address, where there is one
abbrev pub link_octets : Option (List ℕ) → List ℕ
link_octets None = []
link_octets (Some addr) = addr

pub record HasLink (link : Option (List ℕ)) : Type 0 where
  pub wide : IfSome link (λ addr. length addr ≡ 16)

abbrev pub IsReachValue : MpReach → List ℕ → Type 0
IsReachValue (reach.Ip4 hop routes) b = (length hop ≡ 4) × IsReach IPV4 4 hop routes b
IsReachValue (reach.Ip6 hop link routes) b = (length hop ≡ 16) × HasLink link × IsReach IPV6 16 (hop ++ link_octets link) routes b

pub record IsMpReach (r : MpReach) (t : TlvValue) : Type 0 where
  pub of_type : IsOfType attribute.MP_REACH_NLRI OptionalNonTransitive t
  pub value : IsReachValue r t.value

-- a family and a row of prefixes
pub record IsUnreach (afi width : ℕ) (routes : List PrefixValue) (b : List ℕ) : Type 0 where
  pub row : List ℕ
  pub octets : b ≡ to_be_bytes w16 afi ++ (UNICAST ∷ row)
  pub prefixes : Row (IsPrefix width) routes row

abbrev pub IsUnreachValue : MpUnreach → List ℕ → Type 0
IsUnreachValue (unreach.Ip4 routes) b = IsUnreach IPV4 4 routes b
IsUnreachValue (unreach.Ip6 routes) b = IsUnreach IPV6 16 routes b

pub record IsMpUnreach (r : MpUnreach) (t : TlvValue) : Type 0 where
  pub of_type : IsOfType attribute.MP_UNREACH_NLRI OptionalNonTransitive t
  pub value : IsUnreachValue r t.value

pub record IsAs4Path (p : As4Path) (t : TlvValue) : Type 0 where
  pub of_type : IsOfType attribute.AS4_PATH OptionalTransitive t
  pub path : IsPath as4_path_form p.path t.value
  pub partial : p.partial ≡ is_partial t.flags

-- any other type, where it is optional
pub record IsOpaque (o : Opaque) (t : TlvValue) : Type 0 where
  pub other : is_recognised t.kind ≡ false
  pub optional : is_optional t.flags ≡ true
  pub kind : o.kind ≡ t.kind
  pub transitive : o.transitive ≡ is_transitive t.flags
  pub partial : o.partial ≡ is_partial t.flags
  pub value : o.value ≡ t.value

-- the attribute that octets spell
abbrev pub Spells : Context → TlvValue → Attr → Type 0
Spells ctx t (attr.Origin o) = IsOrigin o t
Spells ctx t (attr.AsPath p) = IsAsPath ctx p t
Spells ctx t (attr.NextHop addr) = IsNextHop addr t
Spells ctx t (attr.Med n) = IsFour attribute.MULTI_EXIT_DISC OptionalNonTransitive n t
Spells ctx t (attr.LocalPref n) = IsFour attribute.LOCAL_PREF WellKnown n t
Spells ctx t attr.Atomic = IsAtomic t
Spells ctx t (attr.Aggregator a) = IsAggregator attribute.AGGREGATOR ctx.as4 a t
Spells ctx t (attr.Communities c) = IsCommunities c t
Spells ctx t (attr.MpReach r) = IsMpReach r t
Spells ctx t (attr.MpUnreach r) = IsMpUnreach r t
Spells ctx t (attr.As4Path p) = IsAs4Path p t
Spells ctx t (attr.As4Aggregator a) = IsAggregator attribute.AS4_AGGREGATOR true a t
Spells ctx t (attr.Large l) = IsLarge l t
Spells ctx t (attr.Opaque o) = IsOpaque o t
