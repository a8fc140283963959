-- The first n of the numbers that octets begin with.
use Rattle.bgp_wire.proofs.Std.{◌≡◌, ℕ, zero, suc, ◌+◌, ◌*◌, ◌<◌, ◌≤◌, Bool, true, false, List, [], ◌∷◌, ◌++◌, length, map, take, drop, refl, sym, ap, ap₂, ◌∙◌, arith, take-append-drop, length-map, take-map, take-append-add}
use Rattle.std.proofs.lemmas.List.{length-take, length-drop}
use Rattle.bgp_attr.specs.Prelude.{number_width, number_in, numbers_of, as_number}
use Rattle.bgp_attr.proofs.NumberSteps.{number_then, no_number, number_count}
use Rattle.bgp_attr.proofs.SegmentFronts.{number_there, number_short, number_with}

module _ (wide : Bool) where
  none_short : (b : List ℕ) → length b < number_width wide → numbers_of wide b ≡ []
  none_short b short = no_number wide b (sym (number_short wide b short))

  one_there : (b : List ℕ) → number_width wide ≤ length b
      → numbers_of wide b ≡ number_in wide (take (number_width wide) b) ∷ numbers_of wide (drop (number_width wide) b)
  one_there b le = number_then wide b _ _ (sym (number_there wide b le))

width-some : (wide : Bool) → 0 < number_width wide
width-some true = omega arith
width-some false = omega arith

one_more : (wide : Bool) (n : ℕ) → suc n * number_width wide ≡ number_width wide + n * number_width wide
one_more true n = omega arith
one_more false n = omega arith

-- the octets of the first numbers are those numbers
cut : (wide : Bool) (n t : ℕ) (b : List ℕ) → t ≡ n * number_width wide → t ≤ length b → numbers_of wide (take t b) ≡ take n (numbers_of wide b)
cut wide zero t b total le =
    let none : t ≡ 0 = omega (arith, total) in
    ap (λ (k : ℕ). numbers_of wide (take k b)) none ∙ none_short wide [] (width-some wide)
cut wide (suc n) t b total le =
    let k = number_width wide in
    let more : t ≡ k + n * k = total ∙ one_more wide n in
    let x = take k b in
    let y = drop k b in
    let len : length x ≡ k = omega (arith, length-take k b) in
    let front : take t b ≡ x ++ take (n * k) y =
    ap₂ (λ (m : ℕ) (c : List ℕ). take m c) (more ∙ ap (λ (m : ℕ). m + n * k) (sym len)) (sym (take-append-drop k b)) ∙ take-append-add x y (n * k) in
    ap (numbers_of wide) front ∙ number_with wide x (take (n * k) y) len
    ∙ ap (λ (ns : List ℕ). number_in wide x ∷ ns) (cut wide n (n * k) y refl (omega (arith, length-drop k b)))
    ∙ ap (take (suc n)) (sym (one_there wide b (omega arith)))

-- where there are more than n numbers, the octets of n of them are there
pub fits : (wide : Bool) (n : ℕ) (b : List ℕ) → n < length (map as_number (numbers_of wide b)) → n * number_width wide ≤ length b
fits true n b lt = omega (arith, number_count true b, length-map (numbers_of true b) as_number)
fits false n b lt = omega (arith, number_count false b, length-map (numbers_of false b) as_number)

pub first_numbers : (wide : Bool) (n t : ℕ) (b : List ℕ) → t ≡ n * number_width wide → t ≤ length b
    → map as_number (numbers_of wide (take t b)) ≡ take n (map as_number (numbers_of wide b))
first_numbers wide n t b total le = ap (map as_number) (cut wide n t b total le) ∙ sym (take-map as_number n (numbers_of wide b))
