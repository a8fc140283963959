-- Digits one after another.
use Rattle.bgp_wire.proofs.Std.{◌≡◌, ℕ, ◌+◌, ◌*◌, ◌<◌, ◌≤◌, Bool, true, false, cond, leb, List, [], ◌∷◌, length, drop, get_or, Option, Some, None, refl, sym, ap, ◌∙◌, arith, lt-leb, le-leb, at_drop_more, at_drop_all}
use Rattle.bgp_script.specs.Number.{digit_of, digits_behind, at_most}
use Rattle.bgp_wire.specs.Prelude.{◌>>=◌}

above : (b : Bool) (n : ℕ) → b ≡ false → cond b (Some n) None ≡ None
above true n e = absurd cc
above false n e = refl

below : (b : Bool) (n : ℕ) → b ≡ true → cond b (Some n) None ≡ Some n
below true n e = refl
below false n e = absurd cc

grow_step : (word : List ℕ) (n most : ℕ) (o : Option ℕ) → ((d : ℕ) → at_most most (digits_behind (n * 10 + d) word) ≡ None) → at_most most (o >>= (λ d. digits_behind (n * 10 + d) word)) ≡ None
grow_step word n most None later = refl
grow_step word n most (Some d) later = later d

-- more digits make no smaller number
grows : (word : List ℕ) (n most : ℕ) → most < n → at_most most (digits_behind n word) ≡ None
grows [] n most h = above (leb n most) n (lt-leb n most h)
grows (c ∷ word) n most h = grow_step word n most (digit_of c) (λ d. grows word (n * 10 + d) most (omega arith))

module _ (most n i : ℕ) (word : List ℕ) (all : Option ℕ) (so_far : at_most most (digits_behind n (drop i word)) ≡ all) where
  at_digit : i < length word → digits_behind n (drop i word) ≡ (digit_of (get_or word i 0) >>= (λ d. digits_behind (n * 10 + d) (drop (i + 1) word)))
  at_digit h = at_drop_more (digits_behind n) word i 0 h

  pub stops : i < length word → None ≡ digit_of (get_or word i 0) → None ≡ all
  stops h is = ap (λ (o : Option ℕ). at_most most (o >>= (λ d. digits_behind (n * 10 + d) (drop (i + 1) word)))) is ∙ ap (at_most most) (sym (at_digit h)) ∙ so_far

  pub goes_on : (d : ℕ) → i < length word → Some d ≡ digit_of (get_or word i 0) → at_most most (digits_behind (n * 10 + d) (drop (i + 1) word)) ≡ all
  goes_on d h is = ap (λ (o : Option ℕ). at_most most (o >>= (λ d. digits_behind (n * 10 + d) (drop (i + 1) word)))) is ∙ ap (at_most most) (sym (at_digit h)) ∙ so_far

  pub exceeds : (d : ℕ) → i < length word → Some d ≡ digit_of (get_or word i 0) → most < n * 10 + d → None ≡ all
  exceeds d h is large = sym (grows (drop (i + 1) word) (n * 10 + d) most large) ∙ goes_on d h is

  pub ends : length word ≤ i → n ≤ most → Some n ≡ all
  ends h small = sym (below (leb n most) n (le-leb n most small)) ∙ ap (at_most most) (sym (at_drop_all (digits_behind n) word i h)) ∙ so_far
