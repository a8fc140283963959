-- The octets of a set, in order.
use Rattle.ristulva_c.proofs.Below.{◌≡◌, ℕ, ◌+◌, ◌≤◌, Bool, true, false, not, List, [], ◌∷◌, ◌++◌, length, refl, sym, ap, ◌∙◌, arith, filter, range_with_len, map-id, rising, append-nil, length-filter_both, filter_of_map_range_with_len_more, length-range_with_len}
use mathlib.Core.Bool.{cond}

-- those below a number
abbrev pub below : (ℕ → Bool) → ℕ → List ℕ
below p n = filter p (range_with_len 0 n)

more : (p : ℕ → Bool) (n : ℕ) → below p (n + 1) ≡ below p n ++ cond (p n) (n ∷ []) []
more p n =
    ap (filter p) (sym (map-id (range_with_len 0 (n + 1))))
    ∙ filter_of_map_range_with_len_more p (λ x. x) 0 n n (omega arith)
    ∙ ap (λ (l : List ℕ). filter p l ++ cond (p n) (n ∷ []) []) (map-id (range_with_len 0 n))

pub one_more : (p : ℕ → Bool) (n : ℕ) → p n ≡ true → below p (n + 1) ≡ below p n ++ n ∷ []
one_more p n there = more p n ∙ ap (λ (t : Bool). below p n ++ cond t (n ∷ []) []) there

pub none_more : (p : ℕ → Bool) (n : ℕ) → p n ≡ false → below p (n + 1) ≡ below p n
none_more p n missing = more p n ∙ ap (λ (t : Bool). below p n ++ cond t (n ∷ []) []) missing ∙ append-nil (below p n)

pub few : (p : ℕ → Bool) (n : ℕ) → length (below p n) ≤ n
few p n = omega (arith, length-filter_both p (λ k. not (p k)) (λ k. refl) (range_with_len 0 n), length-range_with_len 0 n)

-- at 256 all of them are included
pub all_there : (p : ℕ → Bool) (n : ℕ) (octets : List ℕ) → octets ≡ below p n → n ≡ 256 → octets ≡ rising p
unfolding rising
all_there p n octets is last = is ∙ ap (below p) last
