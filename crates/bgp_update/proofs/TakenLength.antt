-- The first attribute of each type has no more octets than all attributes.
use Rattle.bgp_wire.proofs.Std.{◌≡◌, ℕ, ◌+◌, ◌≤◌, Bool, true, false, cond, eqb, List, [], ◌∷◌, ◌++◌, length, Some, refl, ap, ap₂, ◌∙◌, arith, flat_map, find, list_any, or_parts, or_left, flat_map-append}
use Rattle.std.proofs.lemmas.List.{length-append}
use Rattle.bgp_attr.specs.declared.attr.Attr.{Attr}
use Rattle.bgp_attr.specs.Prelude.{type_of}
use Rattle.bgp_wire.specs.Prelude.{also}
use Rattle.bgp_update.proofs.Lists.{eqb-swap, flat_map-none}
use Rattle.bgp_update.proofs.Rising.{NoneTwice}
use Rattle.bgp_update.proofs.TypeLemmas.{fresh-none, at_most_one, first_of_type}

abbrev firsts : List ℕ → List Attr → List Attr
firsts ks xs = flat_map (λ k. first_of_type k xs) ks

-- an attribute of none of the types changes nothing
firsts-without : (x : Attr) (xs : List Attr) (ks : List ℕ) → list_any (λ k. eqb k (type_of x)) ks ≡ false → firsts ks (x ∷ xs) ≡ firsts ks xs
firsts-without x xs [] e = refl
firsts-without x xs (k ∷ ks) e =
    let p = or_parts (eqb k (type_of x)) (list_any (λ j. eqb j (type_of x)) ks) e in
    ap₂ (λ (a b : List Attr). a ++ b) (ap (λ (t : Bool). at_most_one (cond t (Some x) (find (λ y. eqb (type_of y) k) xs))) (eqb-swap (type_of x) k ∙ p.0)) (firsts-without x xs ks p.1)

module _ (f : Attr → List ℕ) where
  abbrev total : List Attr → ℕ
  total xs = length (flat_map f xs)

  total-append : (xs ys : List Attr) → total (xs ++ ys) ≡ total xs + total ys
  total-append xs ys = ap length (flat_map-append f xs ys) ∙ length-append (flat_map f xs) (flat_map f ys)

  more-by : (x : Attr) (xs : List Attr) (k : ℕ) (ks : List ℕ) (seen : ℕ → Bool) (t : Bool) → eqb (type_of x) k ≡ t → NoneTwice (also k seen) ks
      → total (firsts ks (x ∷ xs)) ≤ length (f x) + total (firsts ks xs)
      → total (at_most_one (cond t (Some x) (find (λ y. eqb (type_of y) k) xs)) ++ firsts ks (x ∷ xs)) ≤ length (f x) + total (first_of_type k xs ++ firsts ks xs)
  more-by x xs k ks seen true e fresh later =
      let none = fresh-none (type_of x) (also k seen) ks (or_left (eqb (type_of x) k) (seen (type_of x)) e) fresh in
      let same : total (firsts ks (x ∷ xs)) ≡ total (firsts ks xs) = ap total (firsts-without x xs ks none) in
      omega (arith, total-append (x ∷ []) (firsts ks (x ∷ xs)), total-append (first_of_type k xs) (firsts ks xs), same, length-append (f x) [])
  more-by x xs k ks seen false e fresh later = omega (arith, total-append (first_of_type k xs) (firsts ks (x ∷ xs)), total-append (first_of_type k xs) (firsts ks xs))

  -- one more attribute adds at most its own octets
  firsts-more : (x : Attr) (xs : List Attr) (ks : List ℕ) (seen : ℕ → Bool) → NoneTwice seen ks → total (firsts ks (x ∷ xs)) ≤ length (f x) + total (firsts ks xs)
  firsts-more x xs [] seen fresh = omega arith
  firsts-more x xs (k ∷ ks) seen fresh = more-by x xs k ks seen (eqb (type_of x) k) refl fresh.1 (firsts-more x xs ks (also k seen) fresh.1)

  pub firsts-shorter : (xs : List Attr) (ks : List ℕ) (seen : ℕ → Bool) → NoneTwice seen ks → length (flat_map f (flat_map (λ k. first_of_type k xs) ks)) ≤ length (flat_map f xs)
  firsts-shorter [] ks seen fresh =
      let none : total (firsts ks []) ≡ 0 = ap total (flat_map-none (λ k. first_of_type k []) ks (λ k. refl)) in omega arith
  firsts-shorter (x ∷ xs) ks seen fresh =
      let rest : total (firsts ks xs) ≤ total xs = firsts-shorter xs ks seen fresh in
      omega (arith, firsts-more x xs ks seen fresh, length-append (f x) (flat_map f xs))
