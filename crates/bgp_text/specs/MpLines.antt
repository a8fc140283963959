-- The lines of MP_REACH_NLRI and MP_UNREACH_NLRI.
use Rattle.std.specs.Prelude.{ℕ, List, [], ◌∷◌, ◌++◌, codes, Option, None, Some}
use Rattle.bgp_text.specs.Below.{flat_map, ipv4_address_text, ipv6_address_text, ipv4_text, ipv6_text}
use Rattle.bgp_text.specs.Below.{MpReach, MpUnreach}
use Rattle.bgp_text.specs.Lines.{line_of}

abbrev pub ip4_next_line : List ℕ → List ℕ
ip4_next_line next_hop = codes "  mp_reach ip4 next " ++ (ipv4_address_text next_hop ++ 10 ∷ [])

-- the global address, and the link-local one if it is present
abbrev pub ip6_next_line : List ℕ → Option (List ℕ) → List ℕ
ip6_next_line next_hop None = codes "  mp_reach ip6 next " ++ (ipv6_address_text next_hop ++ 10 ∷ [])
ip6_next_line next_hop (Some link) =
    codes "  mp_reach ip6 next " ++ (ipv6_address_text next_hop ++ (codes " link " ++ (ipv6_address_text link ++ 10 ∷ [])))

abbrev pub reach_lines : MpReach → List ℕ
reach_lines (MpReach.Ip4 next_hop routes) = ip4_next_line next_hop ++ flat_map (line_of (codes "  mp_nlri ") ipv4_text) routes
reach_lines (MpReach.Ip6 next_hop link routes) = ip6_next_line next_hop link ++ flat_map (line_of (codes "  mp_nlri ") ipv6_text) routes

abbrev pub family_line : List ℕ → List ℕ
family_line family = codes "  mp_unreach " ++ (family ++ 10 ∷ [])

abbrev pub unreach_lines : MpUnreach → List ℕ
unreach_lines (MpUnreach.Ip4 routes) = family_line (codes "ip4") ++ flat_map (line_of (codes "  mp_withdrawn ") ipv4_text) routes
unreach_lines (MpUnreach.Ip6 routes) = family_line (codes "ip6") ++ flat_map (line_of (codes "  mp_withdrawn ") ipv6_text) routes
