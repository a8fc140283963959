-- Routes of other address families (RFC 4760, sections 3 and 4; RFC 2545, section 3).
use Rattle.std.specs.Prelude.{ℕ, ◌+◌, ◌≤◌, Bool, false, not, ◌||◌, ◌==◌, List, [], ◌∷◌, length, take, drop, slice_index, Option, None, Some, IsTrue, if◌then◌else◌}
use Rattle.std.specs.Int.{w16, from_be_bytes}
use Rattle.bgp_numbers.specs.declared.afi.TheConstants.{IPV4, IPV6}
use Rattle.bgp_numbers.specs.declared.safi.TheConstants.{UNICAST}
use Rattle.bgp_open.specs.declared.context.Context.{Context}
use Rattle.bgp_prefix.specs.Prelude.{run_of}
use Rattle.bgp_attr.specs.declared.family.Family.{Family}
use Rattle.bgp_attr.specs.declared.family.Family.TheVariants as family
use Rattle.bgp_attr.specs.declared.mp.MpReach.{MpReach}
use Rattle.bgp_attr.specs.declared.mp.MpReach.TheVariants as reach
use Rattle.bgp_attr.specs.declared.mp.MpUnreach.{MpUnreach}
use Rattle.bgp_attr.specs.declared.mp.MpUnreach.TheVariants as unreach

-- the address family identifier in two octets, the subsequent one in one
abbrev pub afi_of : List ℕ → ℕ
afi_of value = from_be_bytes w16 (slice_index value 0 ∷ slice_index value 1 ∷ [])

abbrev pub safi_of : List ℕ → ℕ
safi_of value = slice_index value 2

-- the families that are known: unicast ones
abbrev pub family_of : List ℕ → Option Family
family_of value =
    if not (safi_of value == UNICAST) then None else (
    if afi_of value == IPV4 then Some family.Ip4 else (
    if afi_of value == IPV6 then Some family.Ip6 else
    None))

-- a family is in use where both speakers offer it
abbrev pub is_in_use : Context → Option Family → Bool
is_in_use ctx None = false
is_in_use ctx (Some family.Ip4) = ctx.ip4
is_in_use ctx (Some family.Ip6) = ctx.ip6

-- the length of an address
abbrev pub address_width : Option Family → ℕ
address_width (Some family.Ip6) = 16
address_width _ = 4

-- a next hop is one address, and for IPv6 it may be two: a global one and a link-local one
abbrev pub is_next_hop_length : Option Family → ℕ → Bool
is_next_hop_length None n = false
is_next_hop_length (Some family.Ip4) n = n == 4
is_next_hop_length (Some family.Ip6) n = (n == 16) || (n == 32)

-- MP_REACH_NLRI: family, length of the next hop in one octet, next hop, a reserved octet of any value, prefixes
abbrev pub next_hop_length : List ℕ → ℕ
next_hop_length value = slice_index value 3

abbrev pub next_hop_of : List ℕ → List ℕ
next_hop_of value = drop 4 value

abbrev pub reached_of : List ℕ → List ℕ
reached_of value = drop (5 + next_hop_length value) value

abbrev pub reach_of_family : Option Family → List ℕ → MpReach
reach_of_family (Some family.Ip6) value = reach.Ip6
    (take 16 (next_hop_of value))
    (if next_hop_length value == 32 then Some (take 16 (drop 16 (next_hop_of value))) else None)
    (run_of 16 (reached_of value)).0
reach_of_family _ value = reach.Ip4 (take 4 (next_hop_of value)) (run_of 4 (reached_of value)).0

abbrev pub mp_reach_of : List ℕ → MpReach
mp_reach_of value = reach_of_family (family_of value) value

-- the next hop and the routes can be read, as in each that is kept
pub record IsReachable (value : List ℕ) : Type 0 where
  pub long : 5 + next_hop_length value ≤ length value
  pub hop : IsTrue (is_next_hop_length (family_of value) (next_hop_length value))

-- MP_UNREACH_NLRI: family, prefixes
abbrev pub withdrawn_of : List ℕ → List ℕ
withdrawn_of value = drop 3 value

abbrev pub unreach_of_family : Option Family → List ℕ → MpUnreach
unreach_of_family (Some family.Ip6) value = unreach.Ip6 (run_of 16 (withdrawn_of value)).0
unreach_of_family _ value = unreach.Ip4 (run_of 4 (withdrawn_of value)).0

abbrev pub mp_unreach_of : List ℕ → MpUnreach
mp_unreach_of value = unreach_of_family (family_of value) value
