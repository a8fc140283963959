-- The lengths of the parts of a body.
use Rattle.bgp_wire.proofs.Std.{◌≡◌, ℕ, ◌+◌, ◌≤◌, Bool, true, false, cond, leb, List, [], ◌∷◌, length, take, drop, Option, Some, None, refl, sym, ap, arith, w16, from_be_bytes, leb-true}
use Rattle.std.proofs.lemmas.List.{length-take, length-drop}
use Rattle.bgp_update.specs.Prelude.{Parts, behind_two, parts_of}
use Rattle.bgp_update.proofs.Bodies.{with_attributes, with_withdrawn}

module _ {A : Type 0} where
  abbrev some : A → Option A
  some x = Some x

  same : (x y : A) → some x ≡ some y → x ≡ y
  same x y e = cc

  not_some : (x : A) → None ≡ some x → ⊥
  not_some x e = absurd cc

behind_len : (b : List ℕ) (found : List ℕ × List ℕ) → behind_two b ≡ Some found → 2 + length found.0 + length found.1 ≡ length b
behind_len [] found e = absurd (not_some found e)
behind_len (h ∷ []) found e = absurd (not_some found e)
behind_len (h ∷ l ∷ b) found e = at (leb n (length b)) refl e
  where
    n : ℕ
    n = from_be_bytes w16 (h ∷ l ∷ [])

    at : (t : Bool) → leb n (length b) ≡ t → cond t (some (take n b, drop n b)) None ≡ Some found → 2 + length found.0 + length found.1 ≡ length (h ∷ l ∷ b)
    at true le e =
        let is = same (take n b, drop n b) found e in
        let front : length found.0 ≡ length (take n b) = ap (λ (q : List ℕ × List ℕ). length q.0) (sym is) in
        let back : length found.1 ≡ length (drop n b) = ap (λ (q : List ℕ × List ℕ). length q.1) (sym is) in
        omega (arith, leb-true n (length b) le, length-take n b, length-drop n b)
    at false le e = absurd (not_some found e)

parts_len : (b : List ℕ) (p : Parts) (o : Option (List ℕ × List ℕ)) → behind_two b ≡ o → with_withdrawn o ≡ Some p → 4 + length p.withdrawn + length p.attributes + length p.nlri ≡ length b
parts_len b p None is e = absurd (not_some p e)
parts_len b p (Some found) is e = at (behind_two found.1) refl e
  where
    at : (q : Option (List ℕ × List ℕ)) → behind_two found.1 ≡ q → with_attributes found.0 q ≡ Some p → 4 + length p.withdrawn + length p.attributes + length p.nlri ≡ length b
    at None eq f = absurd (not_some p f)
    at (Some more) eq f =
        let parts = same (record { withdrawn = found.0; attributes = more.0; nlri = more.1 }) p f in
        let w : length p.withdrawn ≡ length found.0 = ap (λ (x : Parts). length x.withdrawn) (sym parts) in
        let a : length p.attributes ≡ length more.0 = ap (λ (x : Parts). length x.attributes) (sym parts) in
        let n : length p.nlri ≡ length more.1 = ap (λ (x : Parts). length x.nlri) (sym parts) in
        omega (arith, behind_len b found is, behind_len found.1 more eq)

pub parts_within : (b : List ℕ) (p : Parts) → Some p ≡ parts_of b → length b ≤ 4077 → length p.withdrawn + length p.attributes ≤ 4073
unfolding parts_of
parts_within b p e le = omega (arith, parts_len b p (behind_two b) refl (sym e))
