-- The table of digits.
use Rattle.bgp_engine.proofs.Prelude.{◌≡◌, ℕ, ◌+◌, ◌<◌, ◌≤◌, map, get_or, Option, Some, None, refl, ap, arith, range_with_len, unwrap_or, hex_digit_value}
use Rattle.bgp_engine.proofs.Prelude.{value_or_none}
use Rattle.std.proofs.lemmas.List.FromFn.{get_or-map-range_with_len}
use Rattle.bgp_engine.proofs.HexPairs.{digit_value_bound}

pub in_table : (c : ℕ) → c < 256 → get_or (map value_or_none (range_with_len 0 256)) c 0 ≡ value_or_none c
in_table c lt = get_or-map-range_with_len value_or_none 0 256 c c 0 lt (let same : 0 + c ≡ c = omega arith in same)

some_of : (o : Option ℕ) (v : ℕ) → v ≡ unwrap_or o 255 → v < 16 → Some v ≡ o
some_of None v e lt = absurd (omega (arith, e))
some_of (Some x) v e lt = ap (λ (n : ℕ). Some n) e

none_of : (o : Option ℕ) (v : ℕ) → v ≡ unwrap_or o 255 → 16 ≤ v → unwrap_or o 0 < 16 → None ≡ o
none_of None v e le lt = refl
none_of (Some x) v e le lt = absurd (omega (arith, e))

pub small_is_digit : (c v : ℕ) → v ≡ value_or_none c → v < 16 → Some v ≡ hex_digit_value c
small_is_digit c v e lt = some_of (hex_digit_value c) v e lt

pub large_is_none : (c v : ℕ) → v ≡ value_or_none c → 16 ≤ v → None ≡ hex_digit_value c
large_is_none c v e le = none_of (hex_digit_value c) v e le (digit_value_bound c)
