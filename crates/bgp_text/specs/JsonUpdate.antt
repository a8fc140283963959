-- An UPDATE, and routes that are withdrawn, as JSON.
use Rattle.std.specs.Prelude.{ℕ, List, ◌++◌, codes, map}
use Rattle.bgp_text.specs.Below.{Routes, Update}
use Rattle.bgp_text.specs.Json.{member, listed}
use Rattle.bgp_text.specs.JsonAddress.{prefix4_json, prefix6_json}
use Rattle.bgp_text.specs.JsonAttributes.{attribute_member, others_member}
use Rattle.bgp_text.specs.Members.{Shown, printed}

-- how each member of an UPDATE is printed: the lists of routes, and of what isn't recognised, are always printed
abbrev pub in_json : Shown
in_json = record {
  withdrawn = member (codes "withdrawn") (listed prefix4_json);
  attribute = attribute_member;
  others = others_member;
  nlri = member (codes "nlri") (listed prefix4_json);
}

abbrev pub update_members : Update → List ℕ
update_members u = printed in_json u

-- all routes in one list, IPv4 first
unfoldable pub routes_json : Routes → List ℕ
routes_json r = listed (λ route. route) (map prefix4_json r.ip4 ++ map prefix6_json r.ip6)
