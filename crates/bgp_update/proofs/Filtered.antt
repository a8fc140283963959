-- Attributes of unrecognised types without some types: each other type is found as before.
use Rattle.bgp_wire.proofs.Std.{◌≡◌, ℕ, Bool, true, false, not, cond, eqb, List, [], ◌∷◌, Option, Some, None, refl, sym, ap, ◌∙◌, filter, find, both_ways}
use Rattle.std.proofs.lemmas.Bool.{eqb-true}
use Rattle.bgp_attr.specs.declared.opaque.Opaque.{Opaque}

module _ (drops : ℕ → Bool) (k : ℕ) where
  abbrev filtered : List Opaque → List Opaque
  filtered os = filter (λ o. not (drops o.kind)) os

  abbrev found : List Opaque → Option Opaque
  found os = find (λ o. eqb o.kind k) os

  dropped-by : (o : Opaque) (os : List Opaque) (t u : Bool) → drops o.kind ≡ t → eqb o.kind k ≡ u → drops k ≡ true → found os ≡ None → found (cond (not t) (o ∷ os) os) ≡ None
  dropped-by o os true u e f drop none = none
  dropped-by o os false true e f drop none = absurd (both_ways (drops k) (ap drops (sym (eqb-true o.kind k f)) ∙ e) drop)
  dropped-by o os false false e f drop none = ap (λ (t : Bool). cond t (Some o) (found os)) f ∙ none

  pub find-dropped : drops k ≡ true → (os : List Opaque) → found (filtered os) ≡ None
  find-dropped drop [] = refl
  find-dropped drop (o ∷ os) = dropped-by o (filtered os) (drops o.kind) (eqb o.kind k) refl refl drop (find-dropped drop os)

  kept-by : (o : Opaque) (os all : List Opaque) (t u : Bool) → drops o.kind ≡ t → eqb o.kind k ≡ u → drops k ≡ false → found os ≡ found all
      → found (cond (not t) (o ∷ os) os) ≡ cond (eqb o.kind k) (Some o) (found all)
  kept-by o os all true true e f keep same = absurd (both_ways (drops k) keep (ap drops (sym (eqb-true o.kind k f)) ∙ e))
  kept-by o os all true false e f keep same = same ∙ ap (λ (t : Bool). cond t (Some o) (found all)) (sym f)
  kept-by o os all false u e f keep same = ap (λ (r : Option Opaque). cond (eqb o.kind k) (Some o) r) same

  pub find-kept : drops k ≡ false → (os : List Opaque) → found (filtered os) ≡ found os
  find-kept keep [] = refl
  find-kept keep (o ∷ os) = kept-by o (filtered os) os (drops o.kind) (eqb o.kind k) refl refl keep (find-kept keep os)
