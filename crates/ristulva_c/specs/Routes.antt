-- The offsets of the prefixes of MP_REACH_NLRI and MP_UNREACH_NLRI (RFC 4760, sections 3 and 4).
use Rattle.std.specs.Prelude.{◌≡◌, ◌+◌, ◌^◌, ◌<◌, ◌≤◌, ◌⊎◌, ℕ, List, length, take}
use Rattle.bgp_numbers.specs.declared.afi.TheConstants.{IPV4, IPV6}
use Rattle.bgp_numbers.specs.declared.safi.TheConstants.{UNICAST}
use Rattle.bgp_prefix.specs.Prelude.{PrefixValue}
use Rattle.bgp_attr.specs.declared.mp.MpReach.{MpReach}
use Rattle.bgp_attr.specs.declared.mp.MpUnreach.{MpUnreach}
use Rattle.bgp_attr.specs.Prelude.{afi_of, safi_of, next_hop_length, next_hop_of}
use Rattle.bgp_attr.specs.declared.mp.MpReach.TheVariants as reach
use Rattle.bgp_attr.specs.declared.mp.MpUnreach.TheVariants as unreach
use Rattle.ristulva_c.specs.declared.span.Span.{Span}
use Rattle.ristulva_c.specs.Span.{octets_in}

-- the prefixes of a value
abbrev pub reach_prefixes : MpReach → List PrefixValue
reach_prefixes (reach.Ip4 hop routes) = routes
reach_prefixes (reach.Ip6 hop link routes) = routes

abbrev pub unreach_prefixes : MpUnreach → List PrefixValue
unreach_prefixes (unreach.Ip4 routes) = routes
unreach_prefixes (unreach.Ip6 routes) = routes

-- the octets of the next hop
abbrev pub hop_of : List ℕ → List ℕ
hop_of value = take (next_hop_length value) (next_hop_of value)

-- the span lies in the octets, and its end fits in four octets too
pub record LiesIn (span : Span) (octets : List ℕ) : Type 0 where
  pub within : span.at + span.len ≤ length octets
  pub fits : span.at + span.len < 2 ^ 32

-- a value begins with a supported family: unicast routes of IPv4 or IPv6
pub record HasFamily (value : List ℕ) : Type 0 where
  pub long : 3 ≤ length value
  pub unicast : safi_of value ≡ UNICAST
  pub known : (afi_of value ≡ IPV4) ⊎ (afi_of value ≡ IPV6)

-- and has room for the next hop and the octet after it
pub record IsReachValue (value : List ℕ) : Type 0 where
  pub family : HasFamily value
  pub long : 5 + next_hop_length value ≤ length value

pub record IsReach (octets : List ℕ) (span : Span) : Type 0 where
  pub lies : LiesIn span octets
  pub value : IsReachValue (octets_in span octets)

pub record IsUnreach (octets : List ℕ) (span : Span) : Type 0 where
  pub lies : LiesIn span octets
  pub value : HasFamily (octets_in span octets)
