-- Common attributes of an UPDATE, of those that are kept, in numbers.
use Rattle.std.specs.Prelude.{◌≡◌, ◌++◌, ℕ, true, List, [], ◌∷◌, length, Option, Some, None, is_some, unwrap_or}
use Rattle.bgp_numbers.specs.declared.afi.TheConstants.{IPV4, IPV6}
use Rattle.bgp_numbers.specs.declared.attribute.TheConstants.{AS_PATH, AS4_PATH, COMMUNITIES, LARGE_COMMUNITY}
use Rattle.bgp_frame.specs.Step.{Step}
use Rattle.bgp_frame.specs.Prelude.{ShowsFront}
use Rattle.bgp_frame.specs.declared.step.Step.TheVariants as step
use Rattle.bgp_open.specs.declared.context.Context.{Context}
use Rattle.bgp_prefix.specs.declared.as_number.AsNumber.{AsNumber}
use Rattle.bgp_attr.specs.declared.aggregator.Aggregator.{Aggregator}
use Rattle.bgp_attr.specs.declared.communities.Communities.{Communities}
use Rattle.bgp_attr.specs.declared.communities.LargeCommunities.{LargeCommunities}
use Rattle.bgp_attr.specs.declared.mp.MpReach.{MpReach}
use Rattle.bgp_attr.specs.declared.origin.Origin.{Origin}
use Rattle.bgp_attr.specs.declared.path.AsPath.{AsPath}
use Rattle.bgp_attr.specs.declared.path.As4Path.{As4Path}
use Rattle.bgp_attr.specs.declared.path.SegKind.{SegKind}
use Rattle.bgp_attr.specs.declared.path.SegKind.TheVariants.{Set, Seq}
use Rattle.bgp_attr.specs.declared.path.Segment.{Segment}
use Rattle.bgp_attr.specs.Prelude.{numbers_of, triples_of, each_once, path_of, origin_code, as_path_form, as4_path_form}
use Rattle.bgp_attr.specs.declared.mp.MpReach.TheVariants as reach
use Rattle.bgp_update.specs.declared.attrs.Attrs.{Attrs}
use Rattle.bgp_update.specs.Prelude.{rebuilt, Parts, parts_of}
use Rattle.bgp_msg.specs.declared.message.Message.TheVariants as message
use Rattle.bgp_msg.specs.declared.outcome.Outcome.{Outcome}
use Rattle.bgp_msg.specs.Prelude.{out_of}
use Rattle.bgp_msg.specs.declared.outcome.Outcome.TheVariants as outcome
use Rattle.ristulva_c.specs.declared.facts.Facts.{Facts}
use Rattle.ristulva_c.specs.declared.facts.Hops.{Hops}
use Rattle.ristulva_c.specs.declared.facts.Paths.{Paths}
use Rattle.ristulva_c.specs.declared.status.TheConstants.{INCOMPLETE, OK, REFUSED}
use Rattle.ristulva_c.specs.Opens.{flag_of}
use Rattle.ristulva_c.specs.Places.{kept_at}
use Rattle.ristulva_c.specs.Span.{octets_in}

-- ---- the origin AS of a route

-- the last of some numbers
abbrev pub last_number : List AsNumber → Option ℕ
last_number [] = None
last_number (n ∷ []) = Some n.0
last_number (n ∷ m ∷ later) = last_number (m ∷ later)

abbrev pub last_by : SegKind → List AsNumber → Option ℕ
last_by Set numbers = None
last_by Seq numbers = last_number numbers

-- the last number of a path that ends in a sequence; none of one that is empty, or ends in a set (RFC 6811, section 2)
abbrev pub origin_in : List Segment → Option ℕ
origin_in [] = None
origin_in (s ∷ []) = last_by s.kind s.numbers
origin_in (s ∷ t ∷ later) = origin_in (t ∷ later)

abbrev pub origin_of : Option AsPath → Option ℕ
origin_of None = None
origin_of (Some path) = origin_in path.segments

-- ---- next hops

abbrev pub four_zeros : List ℕ
four_zeros = 0 ∷ 0 ∷ 0 ∷ 0 ∷ []

abbrev pub twelve_zeros : List ℕ
twelve_zeros = 0 ∷ 0 ∷ 0 ∷ 0 ∷ 0 ∷ 0 ∷ 0 ∷ 0 ∷ 0 ∷ 0 ∷ 0 ∷ 0 ∷ []

abbrev pub no_address : List ℕ
no_address = four_zeros ++ twelve_zeros

-- the family of MP_REACH_NLRI, 0 where there is none, and its next hops: an IPv4 address is in the first four octets
abbrev pub mp_afi : Option MpReach → ℕ
mp_afi None = 0
mp_afi (Some (reach.Ip4 hop routes)) = IPV4
mp_afi (Some (reach.Ip6 hop link routes)) = IPV6

abbrev pub mp_hop : Option MpReach → List ℕ
mp_hop None = no_address
mp_hop (Some (reach.Ip4 hop routes)) = hop ++ twelve_zeros
mp_hop (Some (reach.Ip6 hop link routes)) = hop

abbrev pub mp_link : Option MpReach → Option (List ℕ)
mp_link None = None
mp_link (Some (reach.Ip4 hop routes)) = None
mp_link (Some (reach.Ip6 hop link routes)) = link

abbrev pub hops_told : Attrs → Hops
hops_told a = record {
  next_hop = unwrap_or a.next_hop four_zeros;
  mp_next_hop = mp_hop a.mp_reach;
  link_local = unwrap_or (mp_link a.mp_reach) no_address;
  mp_afi = mp_afi a.mp_reach;
  has_next_hop = flag_of (is_some a.next_hop);
  has_link_local = flag_of (is_some (mp_link a.mp_reach));
}

-- ---- paths and communities: the offsets of the values that are kept

abbrev pub paths_told : Option Parts → Attrs → Paths
paths_told parts a = record {
  as_path = kept_at (is_some a.as_path) AS_PATH parts;
  as4_path = kept_at (is_some a.as4_path) AS4_PATH parts;
  communities = kept_at (is_some a.communities) COMMUNITIES parts;
  large_communities = kept_at (is_some a.large) LARGE_COMMUNITY parts;
  origin_as = unwrap_or (origin_of (rebuilt a).path) 0;
  has_as_path = flag_of (is_some a.as_path);
  has_as4_path = flag_of (is_some a.as4_path);
  has_communities = flag_of (is_some a.communities);
  has_large_communities = flag_of (is_some a.large);
  has_origin_as = flag_of (is_some (origin_of (rebuilt a).path));
}

-- ---- all of them

abbrev pub aggregator_as : Option Aggregator → ℕ
aggregator_as None = 0
aggregator_as (Some g) = (g.asn).0

abbrev pub aggregator_address : Option Aggregator → List ℕ
aggregator_address None = four_zeros
aggregator_address (Some g) = g.addr

abbrev pub origin_number : Option Origin → ℕ
origin_number None = 0
origin_number (Some o) = origin_code o

-- what is reported of the attributes that are kept; the aggregator is what AGGREGATOR and AS4_AGGREGATOR give together, and the origin AS is that of
-- the path that AS_PATH and AS4_PATH give together (RFC 6793, section 4.2.3)
abbrev pub facts_told : Option Parts → Attrs → Facts
facts_told parts a = record {
  hops = hops_told a;
  paths = paths_told parts a;
  med = unwrap_or a.med 0;
  local_pref = unwrap_or a.local_pref 0;
  aggregator_as = aggregator_as (rebuilt a).aggregator;
  aggregator_address = aggregator_address (rebuilt a).aggregator;
  unrecognised = length a.others;
  origin = origin_number a.origin;
  has_origin = flag_of (is_some a.origin);
  has_med = flag_of (is_some a.med);
  has_local_pref = flag_of (is_some a.local_pref);
  has_aggregator = flag_of (is_some (rebuilt a).aggregator);
  atomic_aggregate = flag_of a.atomic;
}

-- ---- by the outcome

-- the attributes of an UPDATE that is accepted
abbrev pub attrs_in : Outcome → Option Attrs
attrs_in (outcome.Took (message.Update u) notes) = Some u.attrs
attrs_in (outcome.Took (message.Open o) notes) = None
attrs_in (outcome.Took (message.Notification n) notes) = None
attrs_in (outcome.Took message.Keepalive notes) = None
attrs_in (outcome.Withdraw routes notes) = None
attrs_in (outcome.Reset n) = None

abbrev pub IsKept : ℕ → ℕ → Facts → Facts → Type 0
IsKept answer status before behind = (status ≡ answer) × (behind ≡ before)

-- the facts of an UPDATE that is accepted are written, and else nothing
abbrev pub TellsFacts : Option Parts → Option Attrs → ℕ → Facts → Facts → Type 0
TellsFacts parts (Some a) status before behind = (status ≡ OK) × (behind ≡ facts_told parts a)
TellsFacts parts None status before behind = IsKept REFUSED status before behind

-- by what the octets begin with: less than a message; a message, and its outcome in the context; or a header with a fault
abbrev pub Tells : Context → Step → ℕ → Facts → Facts → Type 0
Tells ctx step.More status before behind = IsKept INCOMPLETE status before behind
Tells ctx (step.Frame f) status before behind = TellsFacts (parts_of f.body.now) (attrs_in (out_of ctx (record { kind = f.kind; body = f.body.now }))) status before behind
Tells ctx (step.Fault fault) status before behind = IsKept REFUSED status before behind

-- the octets at the reported offsets are the paths and communities that are kept
pub record PathsLie (ctx : Context) (octets : List ℕ) (a : Attrs) (told : Paths) : Type 0 where
  pub as_path : (p : AsPath) → a.as_path ≡ Some p → path_of (as_path_form ctx) (octets_in told.as_path octets) ≡ p
  pub as4_path : (p : As4Path) → a.as4_path ≡ Some p → path_of as4_path_form (octets_in told.as4_path octets) ≡ p.path
  pub communities : (c : Communities) → a.communities ≡ Some c → numbers_of true (octets_in told.communities octets) ≡ c.values
  pub large_communities : (l : LargeCommunities) → a.large ≡ Some l → each_once (triples_of (octets_in told.large_communities octets)) ≡ l.values

abbrev pub AllLie : Context → List ℕ → Step → Type 0
AllLie ctx octets (step.Frame f) =
    (a : Attrs) → attrs_in (out_of ctx (record { kind = f.kind; body = f.body.now })) ≡ Some a → PathsLie ctx octets a (paths_told (parts_of f.body.now) a)
AllLie ctx octets step.More = Unit {0}
AllLie ctx octets (step.Fault fault) = Unit {0}

-- the facts of the UPDATE that octets begin with are written
pub record AreFacts (ctx : Context) (octets : List ℕ) (status : ℕ) (before behind : Facts) : Type 0 where
  pub found : Step
  pub shows : ShowsFront octets found
  pub tells : Tells ctx found status before behind
  pub lie : AllLie ctx octets found
