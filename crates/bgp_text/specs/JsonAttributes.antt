-- Attributes as JSON.
use Rattle.std.specs.Prelude.{ℕ, ◌/◌, ◌%◌, true, List, [], ◌∷◌, ◌++◌, slice_index, codes}
use Rattle.bgp_text.specs.Below.{decimal, Aggregator, Attr, Opaque, Origin, attribute_name}
use Rattle.bgp_text.specs.AttributeLines.{origin_name}
use Rattle.bgp_text.specs.Json.{quoted, octets_json, boolean, member, listed, where_named}
use Rattle.bgp_text.specs.JsonAddress.{ip4_json}
use Rattle.bgp_text.specs.JsonMp.{reach_json, unreach_json}
use Rattle.bgp_text.specs.JsonPath.{path_json}

abbrev pub origin_json : Origin → List ℕ
origin_json o = quoted (origin_name o)

-- its AS number, and its address
unfoldable pub aggregator_json : Aggregator → List ℕ
aggregator_json a = codes "{\"as\":" ++ (decimal a.asn.0 ++ (member (codes "address") ip4_json a.addr ++ codes "}"))

-- a community: its upper and its lower 16 bits
unfoldable pub community_json : ℕ → List ℕ
community_json n = quoted (decimal (n / 65536) ++ (codes ":" ++ decimal (n % 65536)))

-- a large community: its three numbers
unfoldable pub large_json : List ℕ → List ℕ
large_json c = quoted (decimal (slice_index c 0) ++ (codes ":" ++ (decimal (slice_index c 1) ++ (codes ":" ++ decimal (slice_index c 2)))))

-- an attribute that isn't recognised: its type, its flags, its value, and its name if it has one
unfoldable pub opaque_json : Opaque → List ℕ
opaque_json o =
    codes "{\"type\":" ++ (decimal o.kind ++ (member (codes "transitive") boolean o.transitive ++ (member (codes "partial") boolean o.partial
    ++ (member (codes "value") octets_json o.value ++ (where_named (codes "name") (attribute_name o.kind) ++ codes "}")))))

-- all attributes of types that aren't recognised: the list is always printed
abbrev pub others_member : List Opaque → List ℕ
others_member others = member (codes "others") (listed opaque_json) others

-- an attribute as a member of an object; one that isn't recognised as a list of its own
unfoldable pub attribute_member : Attr → List ℕ
attribute_member (Attr.Origin o) = member (codes "origin") origin_json o
attribute_member (Attr.AsPath p) = member (codes "as_path") path_json p
attribute_member (Attr.NextHop addr) = member (codes "next_hop") ip4_json addr
attribute_member (Attr.Med n) = member (codes "med") decimal n
attribute_member (Attr.LocalPref n) = member (codes "local_pref") decimal n
attribute_member Attr.Atomic = member (codes "atomic_aggregate") boolean true
attribute_member (Attr.Aggregator a) = member (codes "aggregator") aggregator_json a
attribute_member (Attr.Communities c) = member (codes "communities") (listed community_json) c.values
attribute_member (Attr.MpReach r) = member (codes "mp_reach") reach_json r
attribute_member (Attr.MpUnreach r) = member (codes "mp_unreach") unreach_json r
attribute_member (Attr.As4Path p) = member (codes "as4_path") path_json p.path
attribute_member (Attr.As4Aggregator a) = member (codes "as4_aggregator") aggregator_json a
attribute_member (Attr.Large c) = member (codes "large_communities") (listed large_json) c.values
attribute_member (Attr.Opaque o) = others_member (o ∷ [])
