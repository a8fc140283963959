-- How addresses and prefixes are printed.
use Rattle.std.specs.Prelude.{ℕ, ◌+◌, ◌*◌, ◌/◌, ◌%◌, false, List, [], ◌∷◌, ◌++◌, slice_index, codes}
use Rattle.std.specs.Fmt.{decimal, digit_glyph}
use Rattle.bgp_prefix.specs.Prefix.{PrefixValue}

-- four numbers with dots between them, as in 192.0.2.1
unfoldable pub ipv4_address_text : List ℕ → List ℕ
ipv4_address_text addr =
    decimal (slice_index addr 0) ++ (codes "." ++ (decimal (slice_index addr 1) ++ (codes "."
    ++ (decimal (slice_index addr 2) ++ (codes "." ++ decimal (slice_index addr 3))))))

-- an address, and the length after a slash, as in 10.0.0.0/8
abbrev pub ipv4_text : PrefixValue → List ℕ
ipv4_text p = ipv4_address_text p.addr ++ (codes "/" ++ decimal p.len)

-- an octet as two lower case hexadecimal digits
abbrev pub hex_octet : ℕ → List ℕ
hex_octet x = digit_glyph false (x / 16) ∷ digit_glyph false (x % 16) ∷ []

-- group i of an address: its octets 2 * i and 2 * i + 1
abbrev pub group_text : List ℕ → ℕ → List ℕ
group_text addr i = hex_octet (slice_index addr (2 * i)) ++ hex_octet (slice_index addr (2 * i + 1))

-- four groups from group i on, with colons between them
abbrev pub groups_text : List ℕ → ℕ → List ℕ
groups_text addr i =
    group_text addr i ++ (codes ":" ++ (group_text addr (i + 1) ++ (codes ":" ++ (group_text addr (i + 2) ++ (codes ":" ++ group_text addr (i + 3))))))

-- all eight groups, none shortened, with colons between them
unfoldable pub ipv6_address_text : List ℕ → List ℕ
ipv6_address_text addr = groups_text addr 0 ++ (codes ":" ++ groups_text addr 4)

-- an address, and the length after a slash
abbrev pub ipv6_text : PrefixValue → List ℕ
ipv6_text p = ipv6_address_text p.addr ++ (codes "/" ++ decimal p.len)
