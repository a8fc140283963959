-- Decimal digits, three at a time.
use Rattle.bgp_text.proofs.Prelude.{◌≡◌, ℕ, zero, suc, ◌+◌, ◌-◌, ◌*◌, ◌/◌, ◌%◌, ◌^◌, ◌<◌, ◌≤◌, Bool, true, ◌&&◌, T, eqb, List, [], ◌∷◌, ◌++◌, length, get_or}
use Rattle.bgp_text.proofs.Prelude.{drop, ap, sym, ◌∙◌, inl, inr, arith, eq-zero-or-pos, eqb→eq, append_assoc, length-append, set, length-set, drop-append-le}
use Rattle.bgp_text.proofs.Prelude.{drop-set, decimal, decimal_digit, decimal_step, drop-drop}
use lib.Ieee.Fits.{and_l, and_r}
use Rattle.bgp_text.specs.declared.decimal.TheConstants.{THREES}
use Rattle.bgp_text.specs.steps.Digits.{three_digits}

-- ---- the table

abbrev pub InTable : ℕ → Type 0
InTable n = (get_or THREES (n * 3) 0 ≡ 48 + n / 100) × (get_or THREES (n * 3 + 1) 0 ≡ 48 + n / 10 % 10) × (get_or THREES (n * 3 + 2) 0 ≡ 48 + n % 10)

abbrev is_in_table : ℕ → Bool
is_in_table n = eqb (get_or THREES (n * 3) 0) (48 + n / 100) && (eqb (get_or THREES (n * 3 + 1) 0) (48 + n / 10 % 10) && eqb (get_or THREES (n * 3 + 2) 0) (48 + n % 10))

abbrev are_in_table : ℕ → Bool
are_in_table zero = true
are_in_table (suc n) = is_in_table n && are_in_table n

of_test : (n : ℕ) → T (is_in_table n) → InTable n
of_test n t = let behind = and_r _ _ t in (eqb→eq _ _ (and_l _ _ t), eqb→eq _ _ (and_l _ _ behind), eqb→eq _ _ (and_r _ _ behind))

below : (bound n : ℕ) → T (are_in_table bound) → n < bound → InTable n
below zero n t h = absurd (omega arith)
below (suc bound) n t h =
    elim (eq-zero-or-pos (bound - n)) [
      | inl z ↦ let e : n ≡ bound = omega arith in rw e (of_test bound (and_l _ (are_in_table bound) t))
      | inr g ↦ below bound n (and_r _ (are_in_table bound) t) (omega arith)
    ]

pub in_table : (n : ℕ) → n < 1000 → InTable n
in_table n h = below 1000 n tt h

-- ---- numbers

of_two : (n : ℕ) → 10 ≤ n → n < 100 → decimal n ≡ (48 + n / 10) ∷ (48 + n % 10) ∷ []
of_two n lo hi = rw (decimal_step n lo (omega arith), decimal_digit (n / 10) (omega arith))

of_three : (n : ℕ) → 100 ≤ n → n < 1000 → decimal n ≡ three_digits n
of_three n lo hi =
    let a : n / 10 / 10 ≡ n / 100 = omega arith in
    rw (decimal_step n (omega arith) (omega arith), of_two (n / 10) (omega arith) (omega arith), a)

pub behind_thousands : (n : ℕ) → 1000 ≤ n → n < 2 ^ 64 → decimal n ≡ decimal (n / 1000) ++ three_digits (n % 1000)
behind_thousands n lo hi =
    let a : n / 10 / 10 / 10 ≡ n / 1000 = omega arith in
    let b : n / 10 / 10 % 10 ≡ n % 1000 / 100 = omega arith in
    let c : n / 10 % 10 ≡ n % 1000 / 10 % 10 = omega arith in
    let d : n % 10 ≡ n % 1000 % 10 = omega arith in
    let front = decimal (n / 10 / 10 / 10) in
    let one : List ℕ = (48 + n / 10 / 10 % 10) ∷ [] in
    let two : List ℕ = (48 + n / 10 % 10) ∷ [] in
    let three : List ℕ = (48 + n % 10) ∷ [] in
    let steps : decimal n ≡ ((front ++ one) ++ two) ++ three = rw (decimal_step n (omega arith) hi, decimal_step (n / 10) (omega arith) (omega arith), decimal_step (n / 10 / 10) (omega arith) (omega arith)) in
    steps ∙ append_assoc (front ++ one) two three ∙ append_assoc front one (two ++ three) ∙ (λ i. decimal (a i) ++ ((48 + b i) ∷ (48 + c i) ∷ (48 + d i) ∷ []))

pub longer_by_three : (n : ℕ) → 1000 ≤ n → n < 2 ^ 64 → length (decimal n) ≡ length (decimal (n / 1000)) + 3
longer_by_three n lo hi = ap length (behind_thousands n lo hi) ∙ length-append _ _

-- ---- how many of the three digits belong to the number

pub one_long : (n : ℕ) → n < 10 → length (decimal n) ≡ 1
one_long n h = ap length (decimal_digit n h)

pub two_long : (n : ℕ) → 10 ≤ n → n < 100 → length (decimal n) ≡ 2
two_long n lo hi = ap length (of_two n lo hi)

pub three_long : (n : ℕ) → 100 ≤ n → n < 1000 → length (decimal n) ≡ 3
three_long n lo hi = ap length (of_three n lo hi)

pub last_one : (n : ℕ) → n < 10 → drop 2 (three_digits n) ≡ decimal n
last_one n h = let same : n % 10 ≡ n = omega arith in rw (decimal_digit n h, same)

pub last_two : (n : ℕ) → 10 ≤ n → n < 100 → drop 1 (three_digits n) ≡ decimal n
last_two n lo hi = let same : n / 10 % 10 ≡ n / 10 = omega arith in rw (of_two n lo hi, same)

pub last_three : (n : ℕ) → 100 ≤ n → n < 1000 → drop 0 (three_digits n) ≡ decimal n
last_three n lo hi = sym (of_three n lo hi)

-- three digits end at an index: the number's own begin there
pub own_digits : (n at k : ℕ) (octets rest : List ℕ) → k ≤ 3 → 3 ≤ at → drop (at - 3) octets ≡ three_digits n ++ rest
    → drop (3 - k) (three_digits n) ≡ decimal n → drop (at - k) octets ≡ decimal n ++ rest
own_digits n at k octets rest few room written own =
    let place : at - 3 + (3 - k) ≡ at - k = omega arith in
    ap (λ (i : ℕ). drop i octets) (sym place) ∙ sym (drop-drop (3 - k) (at - 3) octets) ∙ ap (drop (3 - k)) written
    ∙ drop-append-le (3 - k) (three_digits n) rest (omega arith) ∙ ap (λ (l : List ℕ). l ++ rest) own

-- ---- three octets written

pub three_written : (octets : List ℕ) (at a b c : ℕ) → at + 3 ≤ length octets
    → drop at (set (set (set octets (at + 2) c) (at + 1) b) at a) ≡ a ∷ b ∷ c ∷ drop (at + 3) octets
three_written octets at a b c room =
    let two : at + 1 + 1 ≡ at + 2 = omega arith in
    let three : at + 2 + 1 ≡ at + 3 = omega arith in
    let one_set = set octets (at + 2) c in
    let two_set = set one_set (at + 1) b in
    let long_one = length-set octets (at + 2) c in
    let long_two = length-set one_set (at + 1) b in
    rw (drop-set two_set at a (omega arith), drop-set one_set (at + 1) b (omega arith), two, drop-set octets (at + 2) c (omega arith), three)
