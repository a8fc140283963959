-- Which next hops are host addresses (RFC 4271, section 6.3; RFC 2545, section 3).
use Rattle.std.specs.Prelude.{ℕ, Bool, true, not, ◌&&◌, ◌||◌, ◌==◌, nat_lt, List, take, slice_index, Option, None, Some}
use Rattle.std.specs.List.{list_any}
use Rattle.bgp_attr.specs.declared.mp.MpReach.{MpReach}
use Rattle.bgp_attr.specs.declared.mp.MpReach.TheVariants as reach
use Rattle.bgp_update.specs.declared.update.Update.{Update}

-- not of 0.0.0.0/8, 127.0.0.0/8, 224.0.0.0/4 or 240.0.0.0/4 (RFC 1122, section 3.2.1.3; RFC 1112)
abbrev pub is_host4 : List ℕ → Bool
is_host4 a = not (slice_index a 0 == 0) && (not (slice_index a 0 == 127) && nat_lt (slice_index a 0) 224)

-- fe80::/10 (RFC 4291, section 2.5.6)
abbrev pub is_link_local : List ℕ → Bool
is_link_local a = (slice_index a 0 == 254) && (not (nat_lt (slice_index a 1) 128) && nat_lt (slice_index a 1) 192)

-- neither :: nor ::1
abbrev pub is_above_one : List ℕ → Bool
is_above_one a = list_any (λ o. not (o == 0)) (take 15 a) || nat_lt 1 (slice_index a 15)

-- of a global scope: not ff00::/8, fe80::/10, :: or ::1 (RFC 4291, sections 2.4 and 2.5)
abbrev pub is_host6 : List ℕ → Bool
is_host6 a = not (slice_index a 0 == 255) && (not (is_link_local a) && is_above_one a)

abbrev pub is_link_hop : Option (List ℕ) → Bool
is_link_hop None = true
is_link_hop (Some link) = is_link_local link

abbrev pub has_host_reach : Option MpReach → Bool
has_host_reach None = true
has_host_reach (Some (reach.Ip4 hop routes)) = is_host4 hop
has_host_reach (Some (reach.Ip6 hop link routes)) = is_host6 hop && is_link_hop link

abbrev pub has_host_next_hop : Option (List ℕ) → Bool
has_host_next_hop None = true
has_host_next_hop (Some hop) = is_host4 hop

-- each next hop of an UPDATE is a host address: that of IPv6 a global one, with a link-local one after it where there are two
abbrev pub has_host_hops : Update → Bool
has_host_hops u = has_host_next_hop u.attrs.next_hop && has_host_reach u.attrs.mp_reach
