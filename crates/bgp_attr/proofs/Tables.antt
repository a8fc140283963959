-- Tables: what holds of each row holds of the entry found.
use Rattle.bgp_wire.proofs.Std.{◌≡◌, ℕ, Bool, true, false, not, ◌||◌, cond, eqb, List, [], ◌∷◌, map, inl, inr, refl, sym, ap, subst, ◌∙◌, list_any, false≢true, not-false, or_parts, or_cases}
use Rattle.std.proofs.lemmas.Bool.{true≢false, eqb-true}
use Rattle.bgp_attr.specs.Prelude.{has_entry, entry_of}

-- a fact for each row
abbrev pub EachRow : {A : Type 0} → (ℕ → A → Type 0) → List (ℕ × A) → Type 0
EachRow P [] = Unit {0}
EachRow P (row ∷ rows) = P row.0 row.1 × EachRow P rows

-- the facts in the order of the rows
abbrev pub ◌&◌ : {P Q : Type 0} → P → Q → P × Q
p & q = (p, q)

infixr 5 ◌&◌
-- where each entry contains the number of its row, the entry found contains the number looked for
pub same-back : {A : Type 0} (kind : ℕ) (number : A → ℕ) (rows : List (ℕ × A)) → map (λ row. number row.1) rows ≡ map (λ row. row.0) rows → EachRow (λ k a. kind ≡ k → number a ≡ kind) rows
same-back kind number [] same = tt
same-back kind number (row ∷ rows) same =
    let this : number row.1 ≡ row.0 = cc in
    let rest : map (λ row. number row.1) rows ≡ map (λ row. row.0) rows = cc in
    (λ e. this ∙ sym e, same-back kind number rows rest)

module _ {A : Type 0} (kind : ℕ) (other : A) where
  row-or : (P : ℕ → A → Type 0) (row : ℕ × A) (rows : List (ℕ × A)) (b : Bool) → eqb kind row.0 ≡ b → P row.0 row.1
      → ((has_entry kind rows ≡ false → P kind other) → P kind (entry_of kind rows other)) → ((b || has_entry kind rows) ≡ false → P kind other)
      → P kind (cond b row.1 (entry_of kind rows other))
  row-or P row rows true e here later rest = subst (λ (k : ℕ). P k row.1) (sym (eqb-true kind row.0 e)) here
  row-or P row rows false e here later rest = later rest

  -- a fact for each row, and one for all other numbers, give one for the entry that is found
  pub by_row : (P : ℕ → A → Type 0) (rows : List (ℕ × A)) → EachRow P rows → (has_entry kind rows ≡ false → P kind other) → P kind (entry_of kind rows other)
  by_row P [] each rest = rest refl
  by_row P (row ∷ rows) each rest = row-or P row rows (eqb kind row.0) refl each.0 (by_row P rows each.1) rest

  none-or : (row : ℕ × A) (rows : List (ℕ × A)) (b : Bool) → (has_entry kind rows ≡ false → entry_of kind rows other ≡ other) → (b || has_entry kind rows) ≡ false
      → cond b row.1 (entry_of kind rows other) ≡ other
  none-or row rows true later none = absurd (true≢false none)
  none-or row rows false later none = later none

  -- where no row has the number, the entry is that of all other numbers
  pub entry-other : (rows : List (ℕ × A)) → has_entry kind rows ≡ false → entry_of kind rows other ≡ other
  entry-other [] none = refl
  entry-other (row ∷ rows) none = none-or row rows (eqb kind row.0) (entry-other rows) none

-- a test that each number of a table passes is passed by a number that has a row
pub entry-passes : {A : Type 0} (test : ℕ → Bool) (kind : ℕ) (rows : List (ℕ × A)) → list_any (λ (row : ℕ × A). not (test row.0)) rows ≡ false → has_entry kind rows ≡ true → test kind ≡ true
entry-passes test kind [] all has = absurd (false≢true has)
entry-passes {A = A} test kind (row ∷ rows) all has =
    let p = or_parts (not (test row.0)) (list_any (λ (r : ℕ × A). not (test r.0)) rows) all in
    elim (or_cases (eqb kind row.0) (has_entry kind rows) has) [
      | inl same ↦ ap test (eqb-true kind row.0 same) ∙ not-false (test row.0) p.0
      | inr later ↦ entry-passes test kind rows p.1 later
    ]
