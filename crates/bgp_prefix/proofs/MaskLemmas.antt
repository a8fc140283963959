-- The table of masks, and what they keep.
use Rattle.bgp_wire.proofs.Std.{◌≡◌, ℕ, ◌+◌, ◌-◌, ◌*◌, ◌/◌, ◌%◌, ◌^◌, ◌<◌, ◌≤◌, List, map, get_or, ap, ◌∙◌, arith, range_with_len}
use Rattle.std.specs.Int.Bits.{bit_and}
use Rattle.std.proofs.lemmas.List.FromFn.{get_or-map-range_with_len}
use Rattle.std.proofs.lemmas.Nat.Bits.{and_high_mask}
use Rattle.bgp_prefix.specs.Prelude.{first_bits, mask_of}

-- octet k of the row for 256 + r bits
abbrev pub in_row : ℕ → ℕ → ℕ
in_row r k = 256 - 2 ^ (8 - ((256 + r) - 8 * k))

abbrev pub row_of : ℕ → List ℕ
row_of r = map (in_row r) (range_with_len 0 64)

abbrev pub table : List (List ℕ)
table = map row_of (range_with_len 0 8)

pub in_table : (r k : ℕ) (none : List ℕ) → r < 8 → k < 64 → get_or (get_or table r none) k 0 ≡ in_row r k
in_table r k none row octet =
    ap (λ (xs : List ℕ). get_or xs k 0) (get_or-map-range_with_len row_of 0 8 r r none row (omega arith))
    ∙ get_or-map-range_with_len (in_row r) 0 64 k k 0 octet (omega arith)

-- the masks for l bits begin 32 - l / 8 octets into their row
pub in_row-of : (l i : ℕ) → l < 256 → i < 32 → in_row (l % 8) ((32 - l / 8) + i) ≡ mask_of l i
unfolding mask_of
in_row-of l i small lt = ap (λ (n : ℕ). 256 - 2 ^ (8 - n)) (let same : (256 + l % 8) - 8 * ((32 - l / 8) + i) ≡ l - 8 * i = omega arith in same)

pub mask_past : (l i : ℕ) → l < 256 → 32 ≤ i → 0 ≡ mask_of l i
unfolding mask_of
mask_past l i small past = ap (λ (n : ℕ). 256 - 2 ^ (8 - n)) (let none : 0 ≡ l - 8 * i = omega arith in none)

pub masked : (l i x : ℕ) → x < 256 → bit_and x (mask_of l i) ≡ first_bits (l - 8 * i) x
unfolding mask_of first_bits
masked l i x small = and_high_mask 8 (8 - (l - 8 * i)) (omega arith) x small
