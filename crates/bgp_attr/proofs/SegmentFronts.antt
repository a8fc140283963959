-- A segment at the front of octets, as the code splits it off.
use Rattle.bgp_wire.proofs.Std.{◌≡◌, ◌≢◌, ℕ, zero, suc, ◌+◌, ◌-◌, ◌*◌, ◌<◌, ◌≤◌, Bool, true, false, cond, eqb, not, ◌||◌, List, [], ◌∷◌, ◌++◌, length, get_or, take, drop, Option, Some, None, refl, sym, ap, ap₂, subst, ◌∙◌, arith, inl, inr, cases_lt, le-leb, lt-leb, take-append-drop, take-append-add}
use Rattle.std.proofs.lemmas.Bool.{eq-eqb, ne_eqb}
use Rattle.std.proofs.lemmas.List.{length-take, length-drop, drop-drop, take_all}
use Rattle.bgp_wire.specs.Prelude.{then_pieces, pieces_within, behind_count}
use Rattle.bgp_attr.specs.declared.path_form.PathForm.{PathForm}
use Rattle.bgp_attr.specs.Prelude.{number_width, number_in, one_number, numbers_of, WireSegment, is_known, segment_of, one_segment}
use Rattle.bgp_attr.proofs.Readers.{IsNumber-reads}
use Rattle.bgp_attr.proofs.NumberSteps.{number_then, no_number}

-- ---- one number

number_width-some : (wide : Bool) → 0 < number_width wide
number_width-some true = omega arith
number_width-some false = omega arith

pub number_there : (wide : Bool) (b : List ℕ) → number_width wide ≤ length b → one_number wide b ≡ Some (number_in wide (take (number_width wide) b), drop (number_width wide) b)
unfolding one_number
number_there wide b le = rw (le-leb (number_width wide) (length b) le) refl

pub number_short : (wide : Bool) (b : List ℕ) → length b < number_width wide → one_number wide b ≡ None
unfolding one_number
number_short wide b lt = rw (lt-leb (number_width wide) (length b) lt) refl

-- ---- the counted number of numbers

one_more : (wide : Bool) (n : ℕ) → suc n * number_width wide ≡ number_width wide + n * number_width wide
one_more true n = omega arith
one_more false n = omega arith

no_more_numbers : (wide : Bool) → numbers_of wide [] ≡ []
no_more_numbers wide = no_number wide [] (sym (number_short wide [] (number_width-some wide)))

module _ (wide : Bool) where
  pub number_with : (x y : List ℕ) → length x ≡ number_width wide → numbers_of wide (x ++ y) ≡ number_in wide x ∷ numbers_of wide y
  number_with x y len = number_then wide (x ++ y) (number_in wide x) y (sym ((IsNumber-reads wide).finds (number_in wide x) x y (record { as_wide = len; value = refl })))

  counted : (n t : ℕ) (b : List ℕ) → t ≡ n * number_width wide → t ≤ length b
      → (pieces_within n (one_number wide) b ≡ (numbers_of wide (take t b), drop t b)) × (length (numbers_of wide (take t b)) ≡ n)
  counted zero t b total le =
      let none : t ≡ 0 = omega (arith, total) in (
        ap₂ (λ (x : List ℕ) (k : ℕ). (x, drop k b)) (sym (no_more_numbers wide)) (sym none) ∙ ap (λ (k : ℕ). (numbers_of wide (take k b), drop t b)) (sym none),
        ap (λ (k : ℕ). length (numbers_of wide (take k b))) none ∙ ap length (no_more_numbers wide),
      )
  counted (suc n) t b total le =
      let k = number_width wide in
      let more : t ≡ k + n * k = total ∙ one_more wide n in
      let x = take k b in
      let y = drop k b in
      let len : length x ≡ k = omega (arith, length-take k b) in
      let later = counted n (n * k) y refl (omega (arith, length-drop k b)) in
      let front : take t b ≡ x ++ take (n * k) y =
      ap₂ (λ (m : ℕ) (c : List ℕ). take m c) (more ∙ ap (λ (m : ℕ). m + n * k) (sym len)) (sym (take-append-drop k b)) ∙ take-append-add x y (n * k) in
      let numbers : numbers_of wide (take t b) ≡ number_in wide x ∷ numbers_of wide (take (n * k) y) = ap (numbers_of wide) front ∙ number_with x (take (n * k) y) len in
      let back : drop (n * k) y ≡ drop t b = drop-drop (n * k) k b ∙ ap (λ (m : ℕ). drop m b) (sym more) in (
        ap (then_pieces b (pieces_within n (one_number wide))) (number_there wide b (omega arith))
            ∙ ap (λ (q : List ℕ × List ℕ). (number_in wide x ∷ q.0, q.1)) later.0
            ∙ ap₂ (λ (ns c : List ℕ). (ns, c)) (sym numbers) back,
        ap length numbers ∙ ap suc later.1,
      )

  too_few : (n : ℕ) (b : List ℕ) → length b < n * number_width wide → length (pieces_within n (one_number wide) b).0 < n
  too_few zero b lt = absurd (omega arith)
  too_few (suc n) b lt =
      elim (cases_lt (length b) (number_width wide)) [
        | inl short ↦ let none : length (pieces_within (suc n) (one_number wide) b).0 ≡ 0 = ap (λ (o : Option (ℕ × List ℕ)). length (then_pieces b (pieces_within n (one_number wide)) o).0) (number_short wide b short) in omega arith
        | inr there ↦
            let later = too_few n (drop (number_width wide) b) (omega (arith, length-drop (number_width wide) b, one_more wide n)) in
            let one : length (pieces_within (suc n) (one_number wide) b).0 ≡ suc (length (pieces_within n (one_number wide) (drop (number_width wide) b)).0)
            = ap (λ (o : Option (ℕ × List ℕ)). length (then_pieces b (pieces_within n (one_number wide)) o).0) (number_there wide b there) in
            omega arith
      ]

  behind_there : (n : ℕ) (b : List ℕ) → n * number_width wide ≤ length b
      → behind_count (one_number wide) (n ∷ b) ≡ Some (numbers_of wide (take (n * number_width wide) b), drop (n * number_width wide) b)
  unfolding behind_count
  behind_there n b le =
      let all = counted n (n * number_width wide) b refl le in
      rw (all.0, eq-eqb _ _ all.1) refl

  behind_short : (n : ℕ) (b : List ℕ) → length b < n * number_width wide → behind_count (one_number wide) (n ∷ b) ≡ None
  unfolding behind_count
  behind_short n b lt = rw (ne_eqb _ _ (few n (length (pieces_within n (one_number wide) b).0) (too_few n b lt))) refl
    where
      few : (n m : ℕ) → m < n → m ≢ n
      few n m lt e = omega arith

-- ---- the segment at the front, test by test

abbrev nothing : Option (WireSegment × List ℕ)
nothing = None

none_both : (t : Bool) → cond t nothing nothing ≡ nothing
none_both true = refl
none_both false = refl

pub one_segment-short : (form : PathForm) (b : List ℕ) → length b < 2 → one_segment form b ≡ None
unfolding one_segment behind_count
one_segment-short form [] short = refl
one_segment-short form (code ∷ []) short = none_both (is_known form code)
one_segment-short form (code ∷ n ∷ b) short = absurd (omega arith)

some_numbers : (form : PathForm) (code n : ℕ) (b : List ℕ) (numbers : List ℕ) → length numbers ≡ n
    → cond (is_known form code) (segment_of code (Some (numbers, b))) None ≡ cond (not (is_known form code) || eqb n 0) None (Some (record { code = code; numbers = numbers }, b))
some_numbers form code n b numbers len = at (is_known form code) numbers len
  where
    at : (t : Bool) (numbers : List ℕ) → length numbers ≡ n → cond t (segment_of code (Some (numbers, b))) None ≡ cond (not t || eqb n 0) None (Some (record { code = code; numbers = numbers }, b))
    at false numbers e = refl
    at true [] e = rw (eq-eqb n 0 (sym e)) refl
    at true (x ∷ numbers) e = rw (ne_eqb n 0 (not_none n (length numbers) e)) refl
      where
        not_none : (n m : ℕ) → suc m ≡ n → n ≢ 0
        not_none n m e z = omega arith

one_segment-there : (form : PathForm) (code n : ℕ) (b : List ℕ) → n * number_width form.wide ≤ length b → one_segment form (code ∷ n ∷ b)
    ≡ cond (not (is_known form code) || eqb n 0) None (Some (record { code = code; numbers = numbers_of form.wide (take (n * number_width form.wide) b) }, drop (n * number_width form.wide) b))
unfolding one_segment
one_segment-there form code n b le =
    ap (λ (o : Option (List ℕ × List ℕ)). cond (is_known form code) (segment_of code o) None) (behind_there form.wide n b le)
    ∙ some_numbers form code n (drop (n * number_width form.wide) b) _ (counted form.wide n (n * number_width form.wide) b refl le).1

one_segment-past : (form : PathForm) (code n : ℕ) (b : List ℕ) → length b < n * number_width form.wide → one_segment form (code ∷ n ∷ b) ≡ None
unfolding one_segment
one_segment-past form code n b lt =
    ap (λ (o : Option (List ℕ × List ℕ)). cond (is_known form code) (segment_of code o) None) (behind_short form.wide n b lt) ∙ none_both (is_known form code)

-- ---- the exits of the code, one lemma each

two_cut : (b : List ℕ) → 2 ≤ length b → b ≡ get_or b 0 0 ∷ get_or b 1 0 ∷ take (length b - 2) (drop 2 b)
two_cut (x ∷ y ∷ b) le = ap (λ (r : List ℕ). x ∷ y ∷ r) (sym (take_all (length (x ∷ y ∷ b) - 2) b (omega arith)))
two_cut [] le = absurd (omega arith)
two_cut (x ∷ []) le = absurd (omega arith)

module _ (form : PathForm) (b : List ℕ) (long : 2 ≤ length b) (t : ℕ) (total : t ≡ get_or b 1 0 * number_width form.wide) where
  abbrev code : ℕ
  code = get_or b 0 0

  abbrev count : ℕ
  count = get_or b 1 0

  abbrev behind : List ℕ
  behind = take (length b - 2) (drop 2 b)

  -- what is found where the type is known and the count isn't 0
  abbrev found : ℕ → Option (WireSegment × List ℕ)
  found m = Some (record { code = code; numbers = numbers_of form.wide (take m behind) }, drop m behind)

  tested : t ≤ length behind → one_segment form b ≡ cond (not (is_known form code) || eqb count 0) nothing (found t)
  tested le =
      ap (one_segment form) (two_cut b long)
      ∙ one_segment-there form code count behind (subst (λ (m : ℕ). m ≤ length behind) total le)
      ∙ ap (λ (m : ℕ). cond (not (is_known form code) || eqb count 0) nothing (found m)) (sym total)

  pub segment_found : t ≤ length behind → is_known form code ≡ true → (count ≡ 0 → ⊥) → (numbers rest : List ℕ) → numbers ≡ take t behind → rest ≡ drop t behind
      → Some (record { code = code; numbers = numbers_of form.wide numbers }, rest) ≡ one_segment form b
  segment_found le known some numbers rest e f =
      ap₂ (λ (ns r : List ℕ). Some (record { code = code; numbers = numbers_of form.wide ns }, r)) e f
      ∙ sym (tested le ∙ ap₂ (λ (k z : Bool). cond (not k || z) nothing (found t)) known (ne_eqb count 0 some))

  pub segment_unknown : t ≤ length behind → is_known form code ≡ false → None ≡ one_segment form b
  segment_unknown le unknown = sym (tested le ∙ ap (λ (k : Bool). cond (not k || eqb count 0) nothing (found t)) unknown)

  pub segment_empty : t ≤ length behind → count ≡ 0 → None ≡ one_segment form b
  segment_empty le none = sym (tested le ∙ ap (λ (z : Bool). cond (not (is_known form code) || z) nothing (found t)) (eq-eqb count 0 none) ∙ either (is_known form code))
    where
      either : (k : Bool) → cond (not k || true) nothing (found t) ≡ nothing
      either true = refl
      either false = refl

  pub segment_past : length behind < t → None ≡ one_segment form b
  segment_past lt = sym (ap (one_segment form) (two_cut b long) ∙ one_segment-past form code count behind (subst (λ (m : ℕ). length behind < m) total lt))
