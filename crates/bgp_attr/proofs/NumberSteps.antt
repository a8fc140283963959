-- Numbers, triples and segments one after the other, a step at a time.
use Rattle.bgp_wire.proofs.Std.{◌≡◌, ℕ, ◌<◌, ◌/◌, Bool, true, false, ◌||◌, List, [], ◌∷◌, length, map, suc, Some, None, arith, refl, sym, ap, ◌∙◌, list_any}
use Rattle.bgp_wire.proofs.Walks.{shorter, first_then, no_more}
use Rattle.bgp_attr.specs.Prelude.{IsNumber, number_width, one_number, numbers_of, as_number}
use Rattle.bgp_attr.proofs.Readers.{IsNumber-reads, two_first, four_first}

module _ (wide : Bool) (b : List ℕ) where
  pub number_then : (n : ℕ) (rest : List ℕ) → Some (n, rest) ≡ one_number wide b → numbers_of wide b ≡ n ∷ numbers_of wide rest
  number_then n rest e = first_then ℕ (IsNumber wide) (one_number wide) (IsNumber-reads wide) b n rest e

  pub no_number : None ≡ one_number wide b → numbers_of wide b ≡ []
  no_number e = no_more ℕ (IsNumber wide) (one_number wide) (IsNumber-reads wide) b e

  pub as_number_then : (n : ℕ) (rest : List ℕ) → Some (n, rest) ≡ one_number wide b → map as_number (numbers_of wide b) ≡ as_number n ∷ map as_number (numbers_of wide rest)
  as_number_then n rest e = ap (map as_number) (number_then n rest e)

  pub no_as_number : None ≡ one_number wide b → map as_number (numbers_of wide b) ≡ []
  no_as_number e = ap (map as_number) (no_number e)

  pub number_shorter : (n : ℕ) (rest : List ℕ) → Some (n, rest) ≡ one_number wide b → length rest < length b
  number_shorter n rest e = shorter ℕ (IsNumber wide) (one_number wide) (IsNumber-reads wide) b n rest e

  -- a test on the numbers, which the first one fails
  pub any_number_later : (test : ℕ → Bool) (n : ℕ) (rest : List ℕ) → Some (n, rest) ≡ one_number wide b → test n ≡ false → list_any test (numbers_of wide rest) ≡ list_any test (numbers_of wide b)
  any_number_later test n rest e fails = sym (ap (list_any test) (number_then n rest e) ∙ ap (λ (t : Bool). t || list_any test (numbers_of wide rest)) fails)

  pub any_number_first : (test : ℕ → Bool) (n : ℕ) (rest : List ℕ) → Some (n, rest) ≡ one_number wide b → test n ≡ true → list_any test (numbers_of wide b) ≡ true
  any_number_first test n rest e passes = ap (list_any test) (number_then n rest e) ∙ ap (λ (t : Bool). t || list_any test (numbers_of wide rest)) passes

  pub any_number_none : (test : ℕ → Bool) → None ≡ one_number wide b → list_any test (numbers_of wide b) ≡ false
  any_number_none test e = ap (list_any test) (no_number e)

-- the number of numbers that octets begin with
pub number_count : (wide : Bool) (b : List ℕ) → length (numbers_of wide b) ≡ length b / number_width wide
unfolding one_number
number_count true (x ∷ y ∷ z ∷ w ∷ rest) = ap length (number_then true (x ∷ y ∷ z ∷ w ∷ rest) _ rest (sym (four_first x y z w rest))) ∙ ap suc (number_count true rest) ∙ omega arith
number_count true (x ∷ y ∷ z ∷ []) = ap length (no_number true (x ∷ y ∷ z ∷ []) refl)
number_count true (x ∷ y ∷ []) = ap length (no_number true (x ∷ y ∷ []) refl)
number_count true (x ∷ []) = ap length (no_number true (x ∷ []) refl)
number_count true [] = ap length (no_number true [] refl)
number_count false (x ∷ y ∷ rest) = ap length (number_then false (x ∷ y ∷ rest) _ rest (sym (two_first x y rest))) ∙ ap suc (number_count false rest) ∙ omega arith
number_count false (x ∷ []) = ap length (no_number false (x ∷ []) refl)
number_count false [] = ap length (no_number false [] refl)
