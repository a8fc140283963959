-- MP_REACH_NLRI and MP_UNREACH_NLRI as JSON.
use Rattle.std.specs.Prelude.{ℕ, List, ◌++◌, codes}
use Rattle.bgp_text.specs.Below.{decimal, MpReach, MpUnreach}
use Rattle.bgp_numbers.specs.declared.afi.TheConstants.{IPV4, IPV6}
use Rattle.bgp_numbers.specs.declared.safi.TheConstants.{UNICAST}
use Rattle.bgp_text.specs.Json.{member, listed}
use Rattle.bgp_text.specs.JsonAddress.{ip4_json, ip6_json, prefix4_json, prefix6_json}
use Rattle.bgp_text.specs.Lines.{where_there}

-- the beginning of an object: an address family, unicast
unfoldable pub family_json : ℕ → List ℕ
family_json afi = codes "{\"afi\":" ++ (decimal afi ++ member (codes "safi") decimal UNICAST)

-- the next hop, the link-local one if it is present, and the routes
unfoldable pub reach_json : MpReach → List ℕ
reach_json (MpReach.Ip4 hop routes) =
    family_json IPV4 ++ (member (codes "next_hop") ip4_json hop ++ (member (codes "nlri") (listed prefix4_json) routes ++ codes "}"))
reach_json (MpReach.Ip6 hop link routes) =
    family_json IPV6 ++ (member (codes "next_hop") ip6_json hop ++ (where_there (member (codes "link_local") ip6_json) link
    ++ (member (codes "nlri") (listed prefix6_json) routes ++ codes "}")))

unfoldable pub unreach_json : MpUnreach → List ℕ
unreach_json (MpUnreach.Ip4 routes) = family_json IPV4 ++ (member (codes "withdrawn") (listed prefix4_json) routes ++ codes "}")
unreach_json (MpUnreach.Ip6 routes) = family_json IPV6 ++ (member (codes "withdrawn") (listed prefix6_json) routes ++ codes "}")
