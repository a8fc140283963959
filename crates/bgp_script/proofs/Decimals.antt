-- A number is read back from its printed form.
use Rattle.bgp_wire.proofs.Std.{◌≡◌, ℕ, ◌+◌, ◌-◌, ◌*◌, ◌/◌, ◌%◌, ◌^◌, ◌<◌, ◌≤◌, Bool, true, false, cond, not, ◌&&◌, ◌||◌, eqb, leb, List, [], ◌∷◌, ◌++◌, length, append_assoc, Option, Some, None, refl, sym, ap, ◌∙◌, inl, inr, arith, and_parts, and_from, or_cases, or_right, leb-true, le-leb, eqb-false, not-true, not_from_false, cond-true}
use Rattle.std.proofs.lemmas.Bool.{eqb-true, ne_eqb}
use Rattle.std.proofs.lemmas.List.{append-nil}
use Rattle.std.proofs.lemmas.Fmt.{decimal_digit, decimal_step, decimal_by_steps}
use Rattle.std.specs.Fmt.{decimal}
use Rattle.bgp_script.specs.Number.{digit_of, digits_behind, is_spelled, number_of}
use Rattle.bgp_wire.specs.Prelude.{◌>>=◌}

-- ---- digits

within : (c : ℕ) → (leb 48 c && leb c 57) ≡ true → (48 ≤ c) × (c ≤ 57)
within c e = let both = and_parts (leb 48 c) (leb c 57) e in (leb-true 48 c both.0, leb-true c 57 both.1)

digit_cases : (b : Bool) (c d : ℕ) → (b ≡ true → (48 ≤ c) × (c ≤ 57)) → cond b (Some (c - 48)) None ≡ Some d → (c ≡ 48 + d) × (d < 10)
digit_cases true c d h e = let bounds = h refl in let same : c - 48 ≡ d = cc in (omega (arith, bounds.0), omega (arith, bounds.1))
digit_cases false c d h e = absurd cc

digit_is : (c d : ℕ) → digit_of c ≡ Some d → (c ≡ 48 + d) × (d < 10)
digit_is c d e = digit_cases (leb 48 c && leb c 57) c d (within c) e

digit_from : (d : ℕ) → d < 10 → digit_of (48 + d) ≡ Some d
digit_from d h =
    let test = and_from (leb 48 (48 + d)) (leb (48 + d) 57) (le-leb 48 (48 + d) (omega arith)) (le-leb (48 + d) 57 (omega arith)) in
    let same : 48 + d - 48 ≡ d = omega arith in
    cond-true (leb 48 (48 + d) && leb (48 + d) 57) (Some (48 + d - 48)) None test ∙ ap (λ (k : ℕ). Some k) same

-- ---- steps

given : (o : Option ℕ) (f : ℕ → Option ℕ) (n : ℕ) → (o >>= f) ≡ Some n → (d : ℕ) × (o ≡ Some d) × (f d ≡ Some n)
given None f n e = absurd cc
given (Some d) f n e = (d, refl, e)

value_grows : (word : List ℕ) (m n : ℕ) → digits_behind m word ≡ Some n → m ≤ n
value_grows [] m n e = let same : m ≡ n = cc in omega arith
value_grows (c ∷ word) m n e =
    let digit = given (digit_of c) (λ d. digits_behind (m * 10 + d) word) n e in
    let grown = value_grows word (m * 10 + digit.0) n digit.2 in
    omega (arith, grown)

one_more : (m d c : ℕ) → 0 < m → d < 10 → c ≡ 48 + d → m * 10 + d < 2 ^ 64 → decimal (m * 10 + d) ≡ decimal m ++ (c ∷ [])
one_more m d c some small is below =
    let front : (m * 10 + d) / 10 ≡ m = omega arith in
    let back : 48 + (m * 10 + d) % 10 ≡ c = omega arith in
    decimal_step (m * 10 + d) (omega arith) below ∙ ap (λ (k : ℕ). decimal k ++ ((48 + (m * 10 + d) % 10) ∷ [])) front ∙ ap (λ (k : ℕ). decimal m ++ (k ∷ [])) back

-- digits after those of m
behind_decimal : (word : List ℕ) (m n : ℕ) → 0 < m → n < 2 ^ 64 → digits_behind m word ≡ Some n → decimal m ++ word ≡ decimal n
behind_decimal [] m n some below e = let same : m ≡ n = cc in append-nil (decimal m) ∙ ap decimal same
behind_decimal (c ∷ word) m n some below e =
    let digit = given (digit_of c) (λ d. digits_behind (m * 10 + d) word) n e in
    let is = digit_is c digit.0 digit.1 in
    let grown = value_grows word (m * 10 + digit.0) n digit.2 in
    let step = one_more m digit.0 c some is.1 is.0 (omega (arith, grown)) in
    sym (append_assoc (decimal m) (c ∷ []) word) ∙ ap (λ (front : List ℕ). front ++ word) (sym step) ∙ behind_decimal word (m * 10 + digit.0) n (omega arith) below digit.2

-- ---- what is read is in printed form

spelled_value : (b : Bool) (o : Option ℕ) (n : ℕ) → cond b o None ≡ Some n → (b ≡ true) × (o ≡ Some n)
spelled_value true o n e = (refl, e)
spelled_value false o n e = absurd cc

first_digit : (d c : ℕ) → d < 10 → c ≡ 48 + d → decimal (0 * 10 + d) ≡ c ∷ []
first_digit d c small is = let same : 0 * 10 + d ≡ d = omega arith in ap decimal same ∙ decimal_digit d small ∙ ap (λ (k : ℕ). k ∷ []) (sym is)

leads : List ℕ → Bool
leads [] = false
leads (c ∷ word) = not (eqb c 48)

nonzero : (c x : ℕ) (word : List ℕ) → (eqb (length (x ∷ word)) 0 || not (eqb c 48)) ≡ true → c ≡ 48 → ⊥
nonzero c x word e zero_first =
    elim (or_cases (eqb (length (x ∷ word)) 0) (not (eqb c 48)) e) [
      | inl none ↦ (let long = eqb-true (length (x ∷ word)) 0 none in absurd (omega arith))
      | inr some ↦ eqb-false c 48 (not-true (eqb c 48) some) zero_first
    ]

pub printed : (word : List ℕ) (n : ℕ) → n < 2 ^ 64 → number_of word ≡ Some n → word ≡ decimal n
printed [] n below e = absurd cc
printed (c ∷ []) n below e =
    let digit = given (digit_of c) (λ d. Some (0 * 10 + d)) n e in
    let is = digit_is c digit.0 digit.1 in
    let same : 0 * 10 + digit.0 ≡ n = cc (digit.2) in
    sym (first_digit digit.0 c is.1 is.0) ∙ ap decimal same
printed (c ∷ x ∷ word) n below e =
    let spelled = spelled_value (is_spelled (c ∷ x ∷ word)) (digits_behind 0 (c ∷ x ∷ word)) n e in
    let digit = given (digit_of c) (λ d. digits_behind (0 * 10 + d) (x ∷ word)) n spelled.1 in
    let is = digit_is c digit.0 digit.1 in
    let other : c ≡ 48 → ⊥ = nonzero c x word spelled.0 in
    let some : 0 < 0 * 10 + digit.0 = omega (arith, other, is.0) in
    ap (λ (front : List ℕ). front ++ (x ∷ word)) (sym (first_digit digit.0 c is.1 is.0)) ∙ behind_decimal (x ∷ word) (0 * 10 + digit.0) n some below digit.2

-- ---- the printed form is read

record ReadsAs (n : ℕ) (word : List ℕ) : Type 0 where
  value : digits_behind 0 word ≡ Some n
  spelled : is_spelled word ≡ true
  leading : 0 < n → leads word ≡ true

digits_append : (word more : List ℕ) (m : ℕ) → digits_behind m (word ++ more) ≡ (digits_behind m word >>= (λ k. digits_behind k more))
digits_append [] more m = refl
digits_append (c ∷ word) more m = append_step (digit_of c) (λ d. digits_append word more (m * 10 + d))
  where
    append_step : (o : Option ℕ) → ((d : ℕ) → digits_behind (m * 10 + d) (word ++ more) ≡ (digits_behind (m * 10 + d) word >>= (λ k. digits_behind k more)))
        → (o >>= (λ d. digits_behind (m * 10 + d) (word ++ more))) ≡ ((o >>= (λ d. digits_behind (m * 10 + d) word)) >>= (λ k. digits_behind k more))
    append_step None later = refl
    append_step (Some d) later = later d

leads_append : (word more : List ℕ) → leads word ≡ true → leads (word ++ more) ≡ true
unfolding leads
leads_append [] more e = absurd cc
leads_append (c ∷ word) more e = e

leads_spelled : (word : List ℕ) → leads word ≡ true → is_spelled word ≡ true
unfolding leads
leads_spelled [] e = absurd cc
leads_spelled (c ∷ word) e = or_right (eqb (length word) 0) (not (eqb c 48)) e

reads_digit : (n : ℕ) → n < 10 → ReadsAs n ((48 + n) ∷ [])
unfolding leads
reads_digit n h = record {
  value = ap (λ (o : Option ℕ). o >>= (λ d. Some (0 * 10 + d))) (digit_from n h) ∙ (let same : 0 * 10 + n ≡ n = omega arith in ap (λ (k : ℕ). Some k) same);
  spelled = refl;
  leading = λ some. not_from_false (eqb (48 + n) 48) (ne_eqb (48 + n) 48 (λ e. omega arith));
}

reads_more : (n : ℕ) (word : List ℕ) → 10 ≤ n → ReadsAs (n / 10) word → ReadsAs n (word ++ ((48 + n % 10) ∷ []))
reads_more n word h front =
    let back : n % 10 < 10 = omega arith in
    let same : n / 10 * 10 + n % 10 ≡ n = omega arith in
    let first = leads_append word ((48 + n % 10) ∷ []) (front.leading (omega arith)) in
    record {
      value =
          digits_append word ((48 + n % 10) ∷ []) 0 ∙ ap (λ (o : Option ℕ). o >>= (λ k. digits_behind k ((48 + n % 10) ∷ []))) front.value
          ∙ ap (λ (o : Option ℕ). o >>= (λ d. Some (n / 10 * 10 + d))) (digit_from (n % 10) back) ∙ ap (λ (k : ℕ). Some k) same;
      spelled = leads_spelled (word ++ ((48 + n % 10) ∷ [])) first;
      leading = λ some. first;
    }

pub read_back : (n : ℕ) → n < 2 ^ 64 → number_of (decimal n) ≡ Some n
read_back n below =
    let reads = decimal_by_steps ReadsAs reads_digit reads_more n below in
    cond-true (is_spelled (decimal n)) (digits_behind 0 (decimal n)) None reads.spelled ∙ reads.value
