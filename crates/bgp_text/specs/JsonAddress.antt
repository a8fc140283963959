-- Addresses and prefixes as JSON strings.
use Rattle.std.specs.Prelude.{ℕ, List, ◌++◌, codes}
use Rattle.bgp_text.specs.Below.{decimal, PrefixValue, ipv4_address_text, ipv4_text}
use Rattle.std.specs.Net.Addr.{segments_of}
use Rattle.std.specs.Net.Text.{hex_groups_text}
use Rattle.bgp_text.specs.Json.{quoted}

abbrev pub ip4_json : List ℕ → List ℕ
ip4_json address = quoted (ipv4_address_text address)

-- IPv6 by RFC 5952, sections 4.1 to 4.3: eight groups of lower case digits without leading zeros, and `::` for the longest run of
-- at least two groups that are zero, the first of equally long ones. That form is std's (`hex_groups_text`); it never contains an IPv4 address.
unfoldable pub ip6_text : List ℕ → List ℕ
ip6_text address = hex_groups_text (segments_of address)

abbrev pub ip6_json : List ℕ → List ℕ
ip6_json address = quoted (ip6_text address)

-- an address, and the length after a slash
abbrev pub prefix4_json : PrefixValue → List ℕ
prefix4_json p = quoted (ipv4_text p)

abbrev pub prefix6_json : PrefixValue → List ℕ
prefix6_json p = quoted (ip6_text p.addr ++ (codes "/" ++ decimal p.len))
