-- The order of prefixes.
use Rattle.std.specs.declared.cmp.Ordering.{Ordering}
use Rattle.std.specs.Ordering.{nat_cmp, on, then_cmp}
use Rattle.std.specs.Cmp.Lexicographic.{slice_cmp}
use Rattle.bgp_prefix.specs.Prefix.{PrefixValue}

-- by their addresses, octet by octet from the first, which is the highest; at one address by their lengths
abbrev pub compare_prefixes : PrefixValue → PrefixValue → Ordering
compare_prefixes = then_cmp (on (λ p. p.addr) (slice_cmp nat_cmp)) (on (λ p. p.len) nat_cmp)
