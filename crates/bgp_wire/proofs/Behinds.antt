-- A row after its length, or after its count, is read by its reader: so it is prefix free.
use Rattle.bgp_wire.proofs.Std.{◌≡◌, ℕ, zero, suc, ◌<◌, Bool, true, false, cond, eqb, List, [], ◌∷◌, ◌++◌, length, Option, Some, None, refl, sym, ap, subst, ◌∙◌, append_assoc, arith}
use Rattle.std.proofs.lemmas.Bool.{eqb-true, eq-eqb}
use Rattle.std.proofs.Math.Dec.{eqb-suc-zero}
use Rattle.std.proofs.lemmas.List.{append-nil}
use Rattle.bgp_wire.specs.Prelude.{Row, Splits, Reads, then_pieces, pieces_within, pieces, BehindLength, BehindCount, first_octets, behind_length, behind_count}
use Rattle.bgp_wire.proofs.Firsts.{both_steps, first_octets-finds, first_octets-gives}
use Rattle.bgp_wire.proofs.Pieces.{found_same, found_not, pieces-none, pieces-row, none_at_end, Splits-pieces}

module _ (A : Type 0) (R : A → List ℕ → Type 0) (one : List ℕ → Option (A × List ℕ)) (reads : Reads R one) where
  nothing_left : pieces one [] ≡ ([], [])
  nothing_left = pieces-none A R one reads [] (none_at_end A R one reads (one []) refl)

  -- a row alone is found whole
  pub pieces-whole : (vs : List A) (row : List ℕ) → Row R vs row → pieces one row ≡ (vs, [])
  pieces-whole vs row p =
      ap (pieces one) (sym (append-nil row)) ∙ pieces-row A R one reads vs row [] p
      ∙ ap (λ (q : List A × List ℕ). (vs ++ q.0, q.1)) nothing_left ∙ ap (λ (xs : List A). (xs, [])) (append-nil vs)

  -- what is found with no rest is a row
  pub Row-pieces : (b : List ℕ) (vs : List A) → pieces one b ≡ (vs, []) → Row R vs b
  Row-pieces b vs e =
      let s = subst (λ (q : List A × List ℕ). Splits R b q.0 q.1) e (Splits-pieces A R one reads b) in
      subst (λ (x : List ℕ). Row R vs x) (sym (s.whole ∙ append-nil s.row)) s.spelled

  -- ---- after a length

  BehindLength-finds : (vs : List A) (front back : List ℕ) → BehindLength R vs front → behind_length one (front ++ back) ≡ Some (vs, back)
  unfolding behind_length
  BehindLength-finds vs front back p =
      ap (λ (x : List ℕ). behind_length one (x ++ back)) p.octets
      ∙ rw (first_octets-finds p.row back, pieces-whole vs p.row p.spelled) refl

  whole_gives : (q : List A × List ℕ) (back : List ℕ) (vs : List A) (after : List ℕ) → cond {A = Option (List A × List ℕ)} (eqb (length q.1) 0) (Some (q.0, back)) None ≡ Some (vs, after) → (q ≡ (vs, [])) × (back ≡ after)
  whole_gives (us, []) back vs after e =
      let same = found_same (List A) (us, back) (vs, after) e in
      (ap (λ (p : List A × List ℕ). (p.0, [])) same, ap (λ (p : List A × List ℕ). p.1) same)
  whole_gives (us, x ∷ rest) back vs after e =
      let more : eqb (suc (length rest)) 0 ≡ false = eqb-suc-zero (length rest) in
      absurd (found_not (List A) (vs, after) (sym (ap (λ (t : Bool). cond {A = Option (List A × List ℕ)} t (Some (us, back)) None) more) ∙ e))

  BehindLength-gives : (b : List ℕ) (vs : List A) (back : List ℕ) → behind_length one b ≡ Some (vs, back) → (front : List ℕ) × (b ≡ front ++ back) × BehindLength R vs front
  unfolding behind_length
  BehindLength-gives [] vs back e = absurd (found_not (List A) (vs, back) e)
  BehindLength-gives (n ∷ b) vs back e =
      let steps = both_steps (first_octets n b) (λ (cut : List ℕ × List ℕ). cond {A = Option (List A × List ℕ)} (eqb (length (pieces one cut.0).1) 0) (Some ((pieces one cut.0).0, cut.1)) None) (vs, back) e in
      let cut : List ℕ × List ℕ = steps.0 in
      let front = first_octets-gives n b cut.0 cut.1 steps.1 in
      let whole = whole_gives (pieces one cut.0) cut.1 vs back steps.2 in (
        n ∷ cut.0,
        ap (λ (x : List ℕ). n ∷ x) (front.octets ∙ ap (λ (x : List ℕ). cut.0 ++ x) whole.1),
        record { row = cut.0; octets = ap (λ (k : ℕ). k ∷ cut.0) (sym front.long); spelled = Row-pieces cut.0 vs whole.0 },
      )

  behind_not_empty : (b : List ℕ) (n : ℕ) (row : List ℕ) → b ≡ n ∷ row → 0 < length b
  behind_not_empty b n row e = omega (arith, ap length e)

  pub BehindLength-reads : Reads (BehindLength R) (behind_length one)
  BehindLength-reads = record {
    not_empty = λ vs b p. behind_not_empty b (length p.row) p.row p.octets;
    finds = BehindLength-finds;
    gives = BehindLength-gives;
  }

  -- ---- after a count

  count_within : (vs : List A) (row back : List ℕ) → Row R vs row → pieces_within (length vs) one (row ++ back) ≡ (vs, back)
  count_within [] row back p = ap (λ (x : List ℕ). ([], x ++ back)) p
  count_within (v ∷ vs) row back p =
      let regrouped : row ++ back ≡ p.0 ++ (p.1 ++ back) = ap (λ (x : List ℕ). x ++ back) p.2 ∙ append_assoc p.0 p.1 back in
      ap (pieces_within (suc (length vs)) one) regrouped
      ∙ ap (then_pieces (p.0 ++ (p.1 ++ back)) (pieces_within (length vs) one)) (reads.finds v p.0 (p.1 ++ back) p.3)
      ∙ ap (λ (q : List A × List ℕ). (v ∷ q.0, q.1)) (count_within vs p.1 back p.4)

  BehindCount-finds : (vs : List A) (front back : List ℕ) → BehindCount R vs front → behind_count one (front ++ back) ≡ Some (vs, back)
  unfolding behind_count
  BehindCount-finds vs front back p =
      ap (λ (x : List ℕ). behind_count one (x ++ back)) p.octets
      ∙ rw (count_within vs p.row back p.spelled, eq-eqb (length vs) (length vs) refl) refl

  -- the pieces that were found are a row, and the rest follows it
  then_row : (b : List ℕ) (later : List ℕ → List A × List ℕ) → ((c : List ℕ) → (row : List ℕ) × (c ≡ row ++ (later c).1) × Row R (later c).0 row) → (o : Option (A × List ℕ)) → one b ≡ o
      → (row : List ℕ) × (b ≡ row ++ (then_pieces b later o).1) × Row R (then_pieces b later o).0 row
  then_row b later more None e = ([], refl, refl)
  then_row b later more (Some p) e =
      let gave = reads.gives b p.0 p.1 e in
      let rest = more p.1 in
      (gave.0 ++ rest.0, gave.1 ∙ ap (λ (x : List ℕ). gave.0 ++ x) rest.1 ∙ sym (append_assoc gave.0 rest.0 _), (gave.0, rest.0, refl, gave.2, rest.2))

  Row-within : (n : ℕ) (b : List ℕ) → (row : List ℕ) × (b ≡ row ++ (pieces_within n one b).1) × Row R (pieces_within n one b).0 row
  Row-within zero b = ([], refl, refl)
  Row-within (suc n) b = then_row b (pieces_within n one) (Row-within n) (one b) refl

  count_gives : (n : ℕ) (b : List ℕ) (vs : List A) (after : List ℕ) (t : Bool) → eqb (length (pieces_within n one b).0) n ≡ t → cond t (Some (pieces_within n one b)) None ≡ Some (vs, after)
      → (front : List ℕ) × (n ∷ b ≡ front ++ after) × BehindCount R vs front
  count_gives n b vs after true len e =
      let same = found_same (List A) (pieces_within n one b) (vs, after) e in
      let w = Row-within n b in
      let counted : length vs ≡ n = ap (λ (q : List A × List ℕ). length q.0) (sym same) ∙ eqb-true _ _ len in
      let cut : b ≡ w.0 ++ after = w.1 ∙ ap (λ (q : List A × List ℕ). w.0 ++ q.1) same in
      (n ∷ w.0, ap (λ (x : List ℕ). n ∷ x) cut, record { row = w.0; octets = ap (λ (k : ℕ). k ∷ w.0) (sym counted); spelled = subst (λ (q : List A × List ℕ). Row R q.0 w.0) same w.2 })
  count_gives n b vs after false len e = absurd (found_not (List A) (vs, after) e)

  BehindCount-gives : (b : List ℕ) (vs : List A) (back : List ℕ) → behind_count one b ≡ Some (vs, back) → (front : List ℕ) × (b ≡ front ++ back) × BehindCount R vs front
  unfolding behind_count
  BehindCount-gives [] vs back e = absurd (found_not (List A) (vs, back) e)
  BehindCount-gives (n ∷ b) vs back e = count_gives n b vs back (eqb (length (pieces_within n one b).0) n) refl e

  pub BehindCount-reads : Reads (BehindCount R) (behind_count one)
  BehindCount-reads = record {
    not_empty = λ vs b p. behind_not_empty b (length vs) p.row p.octets;
    finds = BehindCount-finds;
    gives = BehindCount-gives;
  }
