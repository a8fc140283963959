-- What a reader finds is what the spelling says: for any spelling and any reader of it.
use Rattle.bgp_wire.proofs.Std.{◌≡◌, ℕ, zero, suc, ◌<◌, ◌≤◌, List, [], ◌∷◌, ◌++◌, length, Option, Some, None, refl, sym, ap, ◌∙◌, append_assoc, arith, append_cancel_right}
use Rattle.std.proofs.lemmas.List.{append-nil, length-append}
use Rattle.bgp_wire.specs.Prelude.{Row, IsPrefixFree, Splits, Reads, then_pieces, pieces_within, pieces}

module _ (A : Type 0) where
  abbrev pub found : A × List ℕ → Option (A × List ℕ)
  found p = Some p

  pub found_same : (p q : A × List ℕ) → found p ≡ found q → p ≡ q
  found_same p q e = cc

  pub found_not : (p : A × List ℕ) → None ≡ found p → ⊥
  found_not p e = absurd cc

module _ (A : Type 0) (R : A → List ℕ → Type 0) (one : List ℕ → Option (A × List ℕ)) (reads : Reads R one) where
  -- a spelling that is read is not the front of another
  pub Reads-prefix_free : IsPrefixFree R
  Reads-prefix_free = record {
    not_empty = reads.not_empty;
    one_cut = λ v w a b x y p q e.
        let same : (v, x) ≡ (w, y) = found_same A (v, x) (w, y) (sym (reads.finds v a x p) ∙ ap one e ∙ reads.finds w b y q) in
        let after : x ≡ y = ap (λ (p : A × List ℕ). p.1) same in
        (append_cancel_right a b y (ap (λ (r : List ℕ). a ++ r) (sym after) ∙ e), ap (λ (p : A × List ℕ). p.0) same);
  }

  -- what follows a piece is shorter
  pub shrinks : (b : List ℕ) (v : A) (back : List ℕ) → one b ≡ Some (v, back) → length back < length b
  shrinks b v back e =
      let gave = reads.gives b v back e in
      let some : 0 < length gave.0 = reads.not_empty v gave.0 gave.2 in
      omega (arith, ap length gave.1, length-append gave.0 back)

  -- nothing is found in no octets
  pub none_at_end : (o : Option (A × List ℕ)) → one [] ≡ o → o ≡ None
  none_at_end None e = refl
  none_at_end (Some p) e = let short : length p.1 < 0 = shrinks [] p.0 p.1 e in absurd (omega arith)

  -- one more turn on both sides
  then_more : (n m : ℕ) (b : List ℕ) → ((c : List ℕ) → length c ≤ n → length c ≤ m → pieces_within n one c ≡ pieces_within m one c) → length b ≤ suc n → length b ≤ suc m
      → (o : Option (A × List ℕ)) → one b ≡ o → then_pieces b (pieces_within n one) o ≡ then_pieces b (pieces_within m one) o
  then_more n m b more le_n le_m None e = refl
  then_more n m b more le_n le_m (Some p) e =
      let short : length p.1 < length b = shrinks b p.0 p.1 e in
      ap (λ (q : List A × List ℕ). (p.0 ∷ q.0, q.1)) (more p.1 (omega arith) (omega arith))

  then_none : (b : List ℕ) (later : List ℕ → List A × List ℕ) → length b ≤ 0 → (o : Option (A × List ℕ)) → one b ≡ o → then_pieces b later o ≡ ([], b)
  then_none b later le None e = refl
  then_none b later le (Some p) e = let short : length p.1 < length b = shrinks b p.0 p.1 e in absurd (omega arith)

  -- more turns than octets find nothing more
  within_more : (n m : ℕ) (b : List ℕ) → length b ≤ n → length b ≤ m → pieces_within n one b ≡ pieces_within m one b
  within_more zero zero b le_n le_m = refl
  within_more zero (suc m) b le_n le_m = sym (then_none b (pieces_within m one) le_n (one b) refl)
  within_more (suc n) zero b le_n le_m = then_none b (pieces_within n one) le_m (one b) refl
  within_more (suc n) (suc m) b le_n le_m = then_more n m b (within_more n m) le_n le_m (one b) refl

  -- one step of the pieces
  pub pieces-some : (b : List ℕ) (v : A) (back : List ℕ) → one b ≡ Some (v, back) → pieces one b ≡ (v ∷ (pieces one back).0, (pieces one back).1)
  unfolding pieces
  pieces-some b v back e =
      let short : length back < length b = shrinks b v back e in
      within_more (length b) (suc (length b)) b (omega arith) (omega arith)
      ∙ ap (then_pieces b (pieces_within (length b) one)) e
      ∙ ap (λ (q : List A × List ℕ). (v ∷ q.0, q.1)) (within_more (length b) (length back) back (omega arith) (omega arith))

  pub pieces-none : (b : List ℕ) → one b ≡ None → pieces one b ≡ ([], b)
  unfolding pieces
  pieces-none b e =
      within_more (length b) (suc (length b)) b (omega arith) (omega arith) ∙ ap (then_pieces b (pieces_within (length b) one)) e

  -- the rest of a split begins with no spelling exactly where the reader finds none in it
  stuck_none : (rest : List ℕ) → one rest ≡ None → (v : A) (front back : List ℕ) → R v front → rest ≡ front ++ back → ⊥
  stuck_none rest e v front back p whole = found_not A (v, back) (sym e ∙ ap one whole ∙ reads.finds v front back p)

  pub none_stuck : (rest : List ℕ) → ((v : A) (front back : List ℕ) → R v front → rest ≡ front ++ back → ⊥) → (o : Option (A × List ℕ)) → one rest ≡ o → one rest ≡ None
  none_stuck rest stuck None e = e
  none_stuck rest stuck (Some p) e = let gave = reads.gives rest p.0 p.1 e in absurd (stuck p.0 gave.0 p.1 gave.2 gave.1)

  -- a row in front of other octets is found, value for value
  pub pieces-row : (vs : List A) (row rest : List ℕ) → Row R vs row → pieces one (row ++ rest) ≡ (vs ++ (pieces one rest).0, (pieces one rest).1)
  pieces-row [] row rest p = ap (λ (x : List ℕ). pieces one (x ++ rest)) p
  pieces-row (v ∷ vs) row rest p =
      let regrouped : row ++ rest ≡ p.0 ++ (p.1 ++ rest) = ap (λ (x : List ℕ). x ++ rest) p.2 ∙ append_assoc p.0 p.1 rest in
      ap (pieces one) regrouped
      ∙ pieces-some (p.0 ++ (p.1 ++ rest)) v (p.1 ++ rest) (reads.finds v p.0 (p.1 ++ rest) p.3)
      ∙ ap (λ (q : List A × List ℕ). (v ∷ q.0, q.1)) (pieces-row vs p.1 rest p.4)

  -- what is found is a split
  then_splits : (n : ℕ) (b : List ℕ) → ((c : List ℕ) → length c ≤ n → Splits R c (pieces_within n one c).0 (pieces_within n one c).1) → length b ≤ suc n
      → (o : Option (A × List ℕ)) → one b ≡ o → Splits R b (then_pieces b (pieces_within n one) o).0 (then_pieces b (pieces_within n one) o).1
  then_splits n b later le None e = record { row = []; spelled = refl; whole = refl; stuck = stuck_none b e }
  then_splits n b later le (Some p) e =
      let gave = reads.gives b p.0 p.1 e in
      let short : length p.1 < length b = shrinks b p.0 p.1 e in
      let more = later p.1 (omega arith) in
      record {
        row = gave.0 ++ more.row;
        spelled = (gave.0, more.row, refl, gave.2, more.spelled);
        whole = gave.1 ∙ ap (λ (x : List ℕ). gave.0 ++ x) more.whole ∙ sym (append_assoc gave.0 more.row _);
        stuck = more.stuck;
      }

  splits_within : (n : ℕ) (b : List ℕ) → length b ≤ n → Splits R b (pieces_within n one b).0 (pieces_within n one b).1
  splits_within zero b le = record { row = []; spelled = refl; whole = refl; stuck = λ v front back p whole. let some : 0 < length front = reads.not_empty v front p in absurd (omega (arith, ap length whole, length-append front back)) }
  splits_within (suc n) b le = then_splits n b (splits_within n) le (one b) refl

  pub Splits-pieces : (b : List ℕ) → Splits R b (pieces one b).0 (pieces one b).1
  unfolding pieces
  Splits-pieces b = splits_within (length b) b (omega arith)

  -- and each split is what is found
  pub pieces-Splits : (b : List ℕ) (vs : List A) (rest : List ℕ) → Splits R b vs rest → pieces one b ≡ (vs, rest)
  pieces-Splits b vs rest s =
      ap (pieces one) s.whole ∙ pieces-row vs s.row rest s.spelled
      ∙ ap (λ (q : List A × List ℕ). (vs ++ q.0, q.1)) (pieces-none rest (none_stuck rest s.stuck (one rest) refl))
      ∙ ap (λ (xs : List A). (xs, rest)) (append-nil vs)
