-- Lists of families whose routes have path identifiers, as `ip4,ip6`.
use Rattle.std.specs.Prelude.{Bool, ◌||◌, codes}
use Rattle.std.specs.Str.{bytes_eq}
use Rattle.clap.specs.Words.{Text}

-- both families, in either order
abbrev pub names_both : Text → Bool
names_both list = bytes_eq list (codes "ip4,ip6") || bytes_eq list (codes "ip6,ip4")

-- IPv4 unicast, alone or beside IPv6 unicast
abbrev pub names_ip4 : Text → Bool
names_ip4 list = bytes_eq list (codes "ip4") || names_both list

-- IPv6 unicast, likewise
abbrev pub names_ip6 : Text → Bool
names_ip6 list = bytes_eq list (codes "ip6") || names_both list

-- a list names one family, or both, each once
abbrev pub are_families : Text → Bool
are_families list = names_ip4 list || names_ip6 list
