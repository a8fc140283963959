-- One step from piece to piece, as the loops go.
use Rattle.bgp_wire.proofs.Std.{◌≡◌, ℕ, ◌+◌, ◌<◌, ◌≤◌, List, [], ◌∷◌, ◌++◌, length, Option, Some, None, refl, sym, ap, ap₂, ◌∙◌, append_assoc, arith, flat_map, flat_map-cons}
use Rattle.std.proofs.lemmas.List.{append-nil, length-append}
use Rattle.bgp_wire.specs.Prelude.{Row, Reads, pieces}
use Rattle.bgp_wire.proofs.Pieces.{shrinks, pieces-some, pieces-none, none_stuck, Splits-pieces}

module _ (A : Type 0) (R : A → List ℕ → Type 0) (one : List ℕ → Option (A × List ℕ)) (reads : Reads R one) where
  -- what follows a piece is shorter
  pub shorter : (b : List ℕ) (v : A) (after : List ℕ) → Some (v, after) ≡ one b → length after < length b
  shorter b v after e = shrinks A R one reads b v after (sym e)

  -- and has the same rest
  pub same_rest : (b : List ℕ) (v : A) (after : List ℕ) → Some (v, after) ≡ one b → (pieces one after).1 ≡ (pieces one b).1
  same_rest b v after e = ap (λ (q : List A × List ℕ). q.1) (sym (pieces-some A R one reads b v after (sym e)))

  pub first_then : (b : List ℕ) (v : A) (after : List ℕ) → Some (v, after) ≡ one b → (pieces one b).0 ≡ v ∷ (pieces one after).0
  first_then b v after e = ap (λ (q : List A × List ℕ). q.0) (pieces-some A R one reads b v after (sym e))

  -- where there is no piece, all is rest
  pub all_rest : (b : List ℕ) → None ≡ one b → (pieces one b).1 ≡ b
  all_rest b e = ap (λ (q : List A × List ℕ). q.1) (pieces-none A R one reads b (sym e))

  pub no_more : (b : List ℕ) → None ≡ one b → (pieces one b).0 ≡ []
  no_more b e = ap (λ (q : List A × List ℕ). q.0) (pieces-none A R one reads b (sym e))

  -- no piece is at the front of the rest
  pub nothing_at : (b : List ℕ) → one (pieces one b).1 ≡ None
  nothing_at b = none_stuck A R one reads (pieces one b).1 (Splits-pieces A R one reads b).stuck (one (pieces one b).1) refl

  -- ---- the number of pieces

  -- a row has at least an octet for each value
  Row-longer : (vs : List A) (b : List ℕ) → Row R vs b → length vs ≤ length b
  Row-longer [] b row = omega arith
  Row-longer (v ∷ vs) b row =
      omega (arith, Row-longer vs row.1 row.4, ap length row.2, length-append row.0 row.1, reads.not_empty v row.0 row.3)

  pub not_more : (b : List ℕ) → length (pieces one b).0 ≤ length b
  not_more b =
      let s = Splits-pieces A R one reads b in
      omega (arith, Row-longer (pieces one b).0 s.row s.spelled, ap length s.whole, length-append s.row (pieces one b).1)

  -- the count so far, and the pieces of what is left, are all the pieces
  pub counts : (b : List ℕ) (v : A) (after : List ℕ) (count all : ℕ) → Some (v, after) ≡ one b → count + length (pieces one b).0 ≡ all → count + 1 + length (pieces one after).0 ≡ all
  counts b v after count all e whole = omega (arith, ap length (first_then b v after e), whole)

  pub counted : (b : List ℕ) (count all : ℕ) → None ≡ one b → count + length (pieces one b).0 ≡ all → count ≡ all
  counted b count all e whole = omega (arith, ap length (no_more b e), whole)

  -- ---- a list of what each piece yields, so far

  pub adds : {B : Type 0} (f : A → List B) (b : List ℕ) (v : A) (after : List ℕ) (so_far now all : List B) → Some (v, after) ≡ one b → now ≡ so_far ++ f v
      → so_far ++ flat_map f (pieces one b).0 ≡ all → now ++ flat_map f (pieces one after).0 ≡ all
  adds {B = B} f b v after so_far now all e more whole =
      ap (λ (x : List B). x ++ flat_map f (pieces one after).0) more ∙ append_assoc so_far (f v) (flat_map f (pieces one after).0)
      ∙ ap (λ (x : List B). so_far ++ x) (sym (flat_map-cons f v (pieces one after).0))
      ∙ ap (λ (xs : List A). so_far ++ flat_map f xs) (sym (first_then b v after e)) ∙ whole

  pub added : {B : Type 0} (f : A → List B) (b : List ℕ) (so_far all : List B) → None ≡ one b → so_far ++ flat_map f (pieces one b).0 ≡ all → so_far ≡ all
  added {B = B} f b so_far all e whole = sym (append-nil so_far) ∙ ap (λ (xs : List A). so_far ++ flat_map f xs) (sym (no_more b e)) ∙ whole

  pub pushes : (b : List ℕ) (v : A) (after : List ℕ) (so_far now all : List A) → Some (v, after) ≡ one b → now ≡ so_far ++ v ∷ []
      → so_far ++ (pieces one b).0 ≡ all → now ++ (pieces one after).0 ≡ all
  pushes b v after so_far now all e more whole =
      ap (λ (x : List A). x ++ (pieces one after).0) more ∙ append_assoc so_far (v ∷ []) (pieces one after).0
      ∙ ap (λ (xs : List A). so_far ++ xs) (sym (first_then b v after e)) ∙ whole

  pub has_all : (b : List ℕ) (so_far all : List A) → None ≡ one b → so_far ++ (pieces one b).0 ≡ all → so_far ≡ all
  has_all b so_far all e whole = sym (append-nil so_far) ∙ ap (λ (xs : List A). so_far ++ xs) (sym (no_more b e)) ∙ whole

  -- a piece at the front means at least one piece
  pub not_none : (b : List ℕ) (v : A) (after : List ℕ) (so_far all : List A) → Some (v, after) ≡ one b → so_far ++ (pieces one b).0 ≡ all → 0 < length all
  not_none b v after so_far all e whole = omega (arith, ap length whole, length-append so_far (pieces one b).0, ap length (first_then b v after e))

  -- all the pieces, and the rest
  pub has_read : (octets b : List ℕ) (so_far : List A) → None ≡ one b → so_far ++ (pieces one b).0 ≡ (pieces one octets).0 → (pieces one b).1 ≡ (pieces one octets).1 → pieces one octets ≡ (so_far, b)
  has_read octets b so_far e whole rest =
      ap₂ (λ (vs : List A) (x : List ℕ). (vs, x)) (sym (has_all b so_far (pieces one octets).0 e whole)) (sym rest ∙ all_rest b e)
