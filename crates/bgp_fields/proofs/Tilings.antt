-- The fields of octets are the octets.
use Rattle.bgp_fields.proofs.Prelude.{◌≡◌, ℕ, zero, suc, ◌+◌, ◌-◌, ◌≤◌, List, [], ◌∷◌, ◌++◌, length, take, drop, Option, refl, sym, subst, ◌∙◌, arith}
use Rattle.bgp_fields.proofs.Prelude.{length-drop, length-take-le, Field, Group, Tiles, Plan, fit, group_from, Telling, walk_within, walk}
use Rattle.bgp_fields.proofs.Walks.{fit-fits, shorter}

pub Tiles-append : (from middle next to : ℕ) (fs gs : List Field) → Tiles from middle fs → middle ≡ next → Tiles next to gs → Tiles from to (fs ++ gs)
Tiles-append from middle next to [] gs t e u = subst (λ (n : ℕ). Tiles n to gs) (sym e ∙ sym t) u
Tiles-append from middle next to (f ∷ fs) gs t e u = (t.0, t.1, Tiles-append (f.at + f.len) middle next to fs gs t.2 e u)

pub Tiles-to : (from to end : ℕ) (fs : List Field) → to ≡ end → Tiles from to fs → Tiles from end fs
Tiles-to from to end fs e t = subst (λ (n : ℕ). Tiles from n fs) e t

module _ (I S : Type 0) (stuck : S) (plan : S → List ℕ → Plan I S) (inside : I → Telling)
    (inside_tiles : (part : I) (at : ℕ) (group : Option Group) (b : List ℕ) → Tiles at (at + length b) (inside part at group b)) where
  tiles-within : (n : ℕ) (part : S) (at : ℕ) (group : Option Group) (b : List ℕ) → length b ≤ n → Tiles at (at + length b) (walk_within n stuck plan inside part at group b)
  tiles-within zero part at group b le = omega arith
  tiles-within (suc n) part at group [] le = omega arith
  tiles-within (suc n) part at group (x ∷ b) le =
      let whole = x ∷ b in
      let p = fit stuck (plan part whole) (length whole) in
      let fits = fit-fits I S stuck (plan part whole) (length whole) (omega arith) in
      let g = group_from at p.begins group in
      let behind : length (drop p.len whole) ≡ length whole - p.len = length-drop p.len whole in
      let inner : length (take p.inner_len (drop p.len whole)) ≡ p.inner_len = length-take-le p.inner_len (drop p.len whole) (omega (arith, behind, fits.1)) in
      let rest : length (drop (p.len + p.inner_len) whole) ≡ length whole - (p.len + p.inner_len) = length-drop (p.len + p.inner_len) whole in (
        refl,
        fits.0,
        Tiles-append (at + p.len) (at + p.len + length (take p.inner_len (drop p.len whole))) (at + p.len + p.inner_len) (at + length whole)
            (inside p.inner (at + p.len) g (take p.inner_len (drop p.len whole)))
            (walk_within n stuck plan inside p.next (at + p.len + p.inner_len) g (drop (p.len + p.inner_len) whole))
            (inside_tiles p.inner (at + p.len) g (take p.inner_len (drop p.len whole)))
            (omega (arith, inner))
            (Tiles-to (at + p.len + p.inner_len) (at + p.len + p.inner_len + length (drop (p.len + p.inner_len) whole)) (at + length whole)
            (walk_within n stuck plan inside p.next (at + p.len + p.inner_len) g (drop (p.len + p.inner_len) whole))
            (omega (arith, rest, fits.1))
            (tiles-within n p.next (at + p.len + p.inner_len) g (drop (p.len + p.inner_len) whole) (shorter I S stuck plan inside p whole n fits le))),
      )

  pub walk-tiles : (part : S) (at : ℕ) (group : Option Group) (b : List ℕ) → Tiles at (at + length b) (walk stuck plan inside part at group b)
  unfolding walk
  walk-tiles part at group b = tiles-within (length b) part at group b (omega arith)
