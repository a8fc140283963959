-- Where a text is split.
use Rattle.bgp_wire.proofs.Std.{◌≡◌, ℕ, suc, ◌+◌, ◌-◌, ◌<◌, ◌≤◌, Bool, true, false, cond, not, eqb, ltb, List, [], ◌∷◌, length, take, drop, take_all, length-drop, Some, None, refl, sym, subst, ap, ◌∙◌, arith, ltb-true, ltb-false, position, position_or_len, onto_first}
use Rattle.bgp_script.specs.Lines.{lines_of}
use Rattle.bgp_script.specs.Pieces.{pieces_at, is_none_left}

-- ---- what the index of an octet implies

some_place : (b : Bool) (n i : ℕ) → cond b (Some n) None ≡ Some i → (b ≡ true) × (n ≡ i)
some_place true n i e = (refl, cc)
some_place false n i e = absurd cc

no_place : (b : Bool) (n : ℕ) → cond b (Some n) None ≡ None → b ≡ false
no_place true n e = absurd cc
no_place false n e = refl

abbrev is_at : ℕ → ℕ → Bool
is_at mark c = eqb c mark

within : (mark : ℕ) (text : List ℕ) (i : ℕ) → position (is_at mark) text ≡ Some i → (position_or_len (is_at mark) text ≡ i) × (i < length text)
within mark text i e =
    let found = some_place (ltb (position_or_len (is_at mark) text) (length text)) (position_or_len (is_at mark) text) i e in
    let below = ltb-true (position_or_len (is_at mark) text) (length text) found.0 in
    (found.1, omega (arith, below, found.1))

nowhere : (mark : ℕ) (text : List ℕ) → position (is_at mark) text ≡ None → length text ≤ position_or_len (is_at mark) text
nowhere mark text e = ltb-false (position_or_len (is_at mark) text) (length text) (no_place (ltb (position_or_len (is_at mark) text) (length text)) (position_or_len (is_at mark) text) e)

-- ---- a list is split into parts, by a function that takes them from the front

module _ (mark : ℕ) (parts : List ℕ → List (List ℕ)) (step : (c : ℕ) (text : List ℕ) → parts (c ∷ text) ≡ cond (eqb c mark) ([] ∷ parts text) (onto_first c (parts text))) where
  cut_head : (b : Bool) (c : ℕ) (text : List ℕ) (m n : ℕ) → cond (not b) (1 + m) 0 ≡ n → n < suc (length text)
      → (m < length text → parts text ≡ take m text ∷ parts (drop (m + 1) text))
      → cond b ([] ∷ parts text) (onto_first c (parts text)) ≡ take n (c ∷ text) ∷ parts (drop (n + 1) (c ∷ text))
  cut_head true c text m n e h later = subst (λ (k : ℕ). [] ∷ parts text ≡ take k (c ∷ text) ∷ parts (drop (k + 1) (c ∷ text))) e refl
  cut_head false c text m n e h later =
      let is : suc m ≡ n = omega arith in
      let up : suc (m + 1) ≡ suc m + 1 = omega arith in
      let below : m < length text = omega arith in
      subst (λ (k : ℕ). onto_first c (parts text) ≡ take k (c ∷ text) ∷ parts (drop (k + 1) (c ∷ text))) is
      (subst (λ (k : ℕ). onto_first c (parts text) ≡ (c ∷ take m text) ∷ parts (drop k (c ∷ text))) up
      (ap (onto_first c) (later below)))

  cut_at : (text : List ℕ) (n : ℕ) → position_or_len (is_at mark) text ≡ n → n < length text → parts text ≡ take n text ∷ parts (drop (n + 1) text)
  cut_at [] n e h = absurd (omega arith)
  cut_at (c ∷ text) n e h = step c text ∙ cut_head (eqb c mark) c text (position_or_len (is_at mark) text) n e h (cut_at text (position_or_len (is_at mark) text) refl)

  -- what is left after a slice to the end
  to_end : (i : ℕ) (text : List ℕ) → take (length text - i) (drop i text) ≡ drop i text
  to_end i text = take_all (length text - i) (drop i text) (omega (arith, length-drop i text))

  pub parts-Some : (text : List ℕ) (i : ℕ) → position (is_at mark) text ≡ Some i → parts text ≡ take i text ∷ parts (take (length text - (i + 1)) (drop (i + 1) text))
  parts-Some text i e =
      let w = within mark text i e in
      subst (λ (later : List ℕ). parts text ≡ take i text ∷ parts later) (sym (to_end (i + 1) text)) (cut_at text i w.0 w.1)

-- ---- pieces

pub piece-Some : (mark i : ℕ) (text : List ℕ) → position (is_at mark) text ≡ Some i → pieces_at mark text ≡ take i text ∷ pieces_at mark (take (length text - (i + 1)) (drop (i + 1) text))
piece-Some mark i text e = parts-Some mark (pieces_at mark) (λ c later. refl) text i e

whole_head : (mark : ℕ) (b : Bool) (c : ℕ) (text : List ℕ) (m : ℕ) → suc (length text) ≤ cond (not b) (1 + m) 0 → (length text ≤ m → pieces_at mark text ≡ text ∷ [])
    → cond b ([] ∷ pieces_at mark text) (onto_first c (pieces_at mark text)) ≡ (c ∷ text) ∷ []
whole_head mark true c text m h later = absurd (omega arith)
whole_head mark false c text m h later = ap (onto_first c) (later (omega arith))

whole : (mark : ℕ) (text : List ℕ) → length text ≤ position_or_len (is_at mark) text → pieces_at mark text ≡ text ∷ []
whole mark [] h = refl
whole mark (c ∷ text) h = whole_head mark (eqb c mark) c text (position_or_len (is_at mark) text) h (whole mark text)

pub piece-None : (mark : ℕ) (text : List ℕ) → position (is_at mark) text ≡ None → pieces_at mark text ≡ text ∷ []
piece-None mark text e = whole mark text (nowhere mark text e)

onto_some : (c : ℕ) (parts : List (List ℕ)) → is_none_left (onto_first c parts) ≡ false
onto_some c [] = refl
onto_some c (part ∷ parts) = refl

either_some : (b : Bool) (c : ℕ) (parts : List (List ℕ)) → is_none_left (cond b ([] ∷ parts) (onto_first c parts)) ≡ false
either_some true c parts = refl
either_some false c parts = onto_some c parts

-- a text has a piece
pub some_piece : (mark : ℕ) (text : List ℕ) → is_none_left (pieces_at mark text) ≡ false
some_piece mark [] = refl
some_piece mark (c ∷ text) = either_some (eqb c mark) c (pieces_at mark text)

-- ---- lines

pub line-Some : (text : List ℕ) (i : ℕ) → position (is_at 10) text ≡ Some i → lines_of text ≡ take i text ∷ lines_of (take (length text - (i + 1)) (drop (i + 1) text))
line-Some text i e = parts-Some 10 lines_of (λ c later. refl) text i e

onto_lines : (c : ℕ) (text : List ℕ) → (0 < length text → lines_of text ≡ text ∷ []) → onto_first c (lines_of text) ≡ (c ∷ text) ∷ []
onto_lines c [] later = refl
onto_lines c (d ∷ text) later = ap (onto_first c) (later (omega arith))

line_head : (b : Bool) (c : ℕ) (text : List ℕ) (m : ℕ) → suc (length text) ≤ cond (not b) (1 + m) 0 → (length text ≤ m → 0 < length text → lines_of text ≡ text ∷ [])
    → cond b ([] ∷ lines_of text) (onto_first c (lines_of text)) ≡ (c ∷ text) ∷ []
line_head true c text m h later = absurd (omega arith)
line_head false c text m h later = onto_lines c text (later (omega arith))

only : (text : List ℕ) → length text ≤ position_or_len (is_at 10) text → 0 < length text → lines_of text ≡ text ∷ []
only [] h some = absurd (omega arith)
only (c ∷ text) h some = line_head (eqb c 10) c text (position_or_len (is_at 10) text) h (only text)

pub line-None : (text : List ℕ) → position (is_at 10) text ≡ None → 0 < length text → lines_of text ≡ text ∷ []
line-None text e some = only text (nowhere 10 text e) some
