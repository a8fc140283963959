-- Octets as bits of words.
use Rattle.bgp_wire.proofs.Std.{◌≡◌, ℕ, ◌*◌, ◌/◌, ◌%◌, ◌^◌, ◌<◌, ◌-◌, not, ◌&&◌, ◌||◌, eqb, nat_lt, zero, suc, List, [], ◌∷◌, length, get_or, set, inl, inr, refl, ap, arith, get_or-set_same, get_or-set_other, eq-eqb, ne_eqb, w64, cases_eq, le-ltb, bit_at, bit_not}
use Rattle.std.proofs.lemmas.Bool.{lt-ltb}
use Rattle.std.proofs.lemmas.Nat.Bits.{bit_at-lt, bit_at-zero, bit_at_not, bit_at_set_same, bit_at_set_other}
use Rattle.std.specs.Prelude.{bit_or}

abbrev has_bit : List ℕ → ℕ → ℕ
has_bit words k = bit_at (get_or words (k / 64) 0) (k % 64)

-- one bit more
pub one_more : (words : List ℕ) (octet word : ℕ) → octet / 64 < length words → word ≡ get_or words (octet / 64) 0
    → (k : ℕ) → eqb (has_bit (set words (octet / 64) (bit_or word (1 * 2 ^ (octet % 64) % 2 ^ 64))) k) 1 ≡ (eqb k octet || eqb (has_bit words k) 1)
one_more words octet word within read k =
    let new : ℕ = bit_or word (1 * 2 ^ (octet % 64) % 2 ^ 64) in
    let low : octet % 64 < 64 = omega arith in
    elim (cases_eq k octet) as (λ _. eqb (has_bit (set words (octet / 64) new) k) 1 ≡ (eqb k octet || eqb (has_bit words k) 1)) [
      | inl same ↦ rw (same, get_or-set_same words (octet / 64) new 0 within, bit_at_set_same w64 word (octet % 64) low, eq-eqb octet octet refl) refl
      | inr other ↦
          rw (ne_eqb k octet other)
          (elim (cases_eq (k / 64) (octet / 64)) as (λ _. eqb (has_bit (set words (octet / 64) new) k) 1 ≡ eqb (has_bit words k) 1) [
            | inl there ↦
                rw (there, get_or-set_same words (octet / 64) new 0 within, bit_at_set_other w64 word (octet % 64) low (k % 64) (λ e. other (omega arith)), read) refl
            | inr far ↦ ap (λ (n : ℕ). eqb (bit_at n (k % 64)) 1) (get_or-set_other words (octet / 64) (k / 64) new 0 far)
          ])
    ]

-- all other bits
module _ (words : List ℕ) (k : ℕ) where
  abbrev word : ℕ → ℕ
  word j = get_or words j 0

  flipped : (b : ℕ) → b < 2 → eqb (1 - b) 1 ≡ not (eqb b 1)
  flipped zero h = refl
  flipped (suc zero) h = refl
  flipped (suc (suc b)) h = absurd (omega arith)

  at : (j : ℕ) → k / 64 ≡ j → j < 4 → word j < 2 ^ 64 → eqb (bit_at (bit_not w64 (word j)) (k % 64)) 1 ≡ (nat_lt k 256 && not (eqb (has_bit words k) 1))
  at j e within fits =
      rw (e, lt-ltb k 256 (omega arith), bit_at_not w64 (word j) (k % 64) fits (omega arith)) (flipped (bit_at (word j) (k % 64)) (bit_at-lt (word j) (k % 64)))

  pub others : (j : ℕ) → k / 64 ≡ j → word 0 < 2 ^ 64 → word 1 < 2 ^ 64 → word 2 < 2 ^ 64 → word 3 < 2 ^ 64
      → eqb (bit_at (get_or (bit_not w64 (word 0) ∷ bit_not w64 (word 1) ∷ bit_not w64 (word 2) ∷ bit_not w64 (word 3) ∷ []) j 0) (k % 64)) 1 ≡ (nat_lt k 256 && not (eqb (has_bit words k) 1))
  others zero e first second third fourth = at 0 e (omega arith) first
  others (suc zero) e first second third fourth = at 1 e (omega arith) second
  others (suc (suc zero)) e first second third fourth = at 2 e (omega arith) third
  others (suc (suc (suc zero))) e first second third fourth = at 3 e (omega arith) fourth
  others (suc (suc (suc (suc j)))) e first second third fourth = rw (le-ltb k 256 (omega (arith, e)), bit_at-zero (k % 64)) refl
