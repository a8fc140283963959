-- Pairs of digits, and text after them.
use Rattle.bgp_engine.proofs.Prelude.{◌≡◌, ℕ, zero, suc, ◌+◌, ◌-◌, ◌*◌, ◌<◌, ◌≤◌, Bool, true, false, cond, ◌&&◌, ◌||◌, eqb, leb, List, [], ◌∷◌, Some, None}
use Rattle.bgp_engine.proofs.Prelude.{refl, sym, subst, ◌∙◌, arith, inl, inr, leb-true, and_parts, or_cases, false_from_ne_true, false≢true, unwrap_or}
use Rattle.bgp_engine.proofs.Prelude.{eqb-true, is_hex_digit, AreOctets, AreOctets-nil, is_blank, digit_value, spelled, bad_from}

-- ---- the first character of a text

blank_is_no_digit : (c : ℕ) → is_blank c ≡ true → is_hex_digit c ≡ false
blank_is_no_digit c e =
    elim (or_cases (eqb c 32 || eqb c 13) (eqb c 10) e) [
      | inl first ↦ elim (or_cases (eqb c 32) (eqb c 13) first) [
        | inl space ↦ subst (λ (n : ℕ). is_hex_digit n ≡ false) (sym (eqb-true c 32 space)) refl
        | inr cr ↦ subst (λ (n : ℕ). is_hex_digit n ≡ false) (sym (eqb-true c 13 cr)) refl
      ]
      | inr lf ↦ subst (λ (n : ℕ). is_hex_digit n ≡ false) (sym (eqb-true c 10 lf)) refl
    ]

pub digit_is_no_blank : (c : ℕ) → is_hex_digit c ≡ true → is_blank c ≡ false
digit_is_no_blank c e = false_from_ne_true (is_blank c) (λ blank. false≢true (sym (blank_is_no_digit c blank) ∙ e))

pub spelled-pair : (c d : ℕ) (text : List ℕ) → is_hex_digit c ≡ true → is_hex_digit d ≡ true → spelled (c ∷ d ∷ text) ≡ (digit_value c * 16 + digit_value d) ∷ spelled text
unfolding spelled
spelled-pair c d text first second = rw (digit_is_no_blank c first, first, second) refl

pub spelled-half : (c d : ℕ) (text : List ℕ) → is_hex_digit c ≡ true → is_hex_digit d ≡ false → spelled (c ∷ d ∷ text) ≡ []
unfolding spelled
spelled-half c d text first second = rw (digit_is_no_blank c first, first, second) refl

pub spelled-blank : (c : ℕ) (text : List ℕ) → is_blank c ≡ true → spelled (c ∷ text) ≡ spelled text
unfolding spelled
spelled-blank c [] blank = refl
spelled-blank c (d ∷ text) blank = rw blank refl

pub spelled-bad : (c : ℕ) (text : List ℕ) → is_blank c ≡ false → is_hex_digit c ≡ false → spelled (c ∷ text) ≡ []
unfolding spelled
spelled-bad c [] blank digit = refl
spelled-bad c (d ∷ text) blank digit = rw (blank, digit) refl

pub bad_from-pair : (n c d : ℕ) (text : List ℕ) → is_hex_digit c ≡ true → is_hex_digit d ≡ true → bad_from n (c ∷ d ∷ text) ≡ bad_from (n + 2) text
unfolding bad_from
bad_from-pair n c d text first second = rw (digit_is_no_blank c first, first, second) refl

pub bad_from-half : (n c d : ℕ) (text : List ℕ) → is_hex_digit c ≡ true → is_hex_digit d ≡ false → bad_from n (c ∷ d ∷ text) ≡ Some (n + 1)
unfolding bad_from
bad_from-half n c d text first second = rw (digit_is_no_blank c first, first, second) refl

pub bad_from-blank : (n c : ℕ) (text : List ℕ) → is_blank c ≡ true → bad_from n (c ∷ text) ≡ bad_from (n + 1) text
unfolding bad_from
bad_from-blank n c [] blank = rw blank refl
bad_from-blank n c (d ∷ text) blank = rw blank refl

pub bad_from-bad : (n c : ℕ) (text : List ℕ) → is_blank c ≡ false → is_hex_digit c ≡ false → bad_from n (c ∷ text) ≡ Some n
unfolding bad_from
bad_from-bad n c [] blank digit = rw blank refl
bad_from-bad n c (d ∷ text) blank digit = rw (blank, digit) refl

pub spelled-digit : (c : ℕ) → spelled (c ∷ []) ≡ []
unfolding spelled
spelled-digit c = refl

pub bad_from-digit : (n c : ℕ) → is_hex_digit c ≡ true → bad_from n (c ∷ []) ≡ Some n
unfolding bad_from
bad_from-digit n c digit = rw (digit_is_no_blank c digit) refl

pub bad_from-nil : (n : ℕ) → bad_from n [] ≡ None
unfolding bad_from
bad_from-nil n = refl

pub spelled-nil : spelled [] ≡ []
unfolding spelled
spelled-nil = refl

-- ---- what hexadecimal text decodes to are octets

value_bound : (b1 b2 b3 : Bool) (c : ℕ) → (b1 ≡ true → c ≤ 70) → (b2 ≡ true → c ≤ 102) → (b3 ≡ true → c ≤ 57) → unwrap_or (cond b1 (Some (c - 55)) (cond b2 (Some (c - 87)) (cond b3 (Some (c - 48)) None))) 0 < 16
value_bound true b2 b3 c p q r = let le = p refl in omega arith
value_bound false true b3 c p q r = let le = q refl in omega arith
value_bound false false true c p q r = let le = r refl in omega arith
value_bound false false false c p q r = omega arith

above : (a b c : ℕ) → (leb a c && leb c b) ≡ true → c ≤ b
above a b c e = leb-true c b (and_parts (leb a c) (leb c b) e).1

pub digit_value_bound : (c : ℕ) → digit_value c < 16
digit_value_bound c = value_bound (leb 65 c && leb c 70) (leb 97 c && leb c 102) (leb 48 c && leb c 57) c (above 65 70 c) (above 97 102 c) (above 48 57 c)

AreOctets-cons : (n : ℕ) (b : List ℕ) → n < 256 → AreOctets b → AreOctets (n ∷ b)
AreOctets-cons n b lt h zero = lt
AreOctets-cons n b lt h (suc i) = h i

pair_octets : (blank first second : Bool) (skip later : List ℕ) (c d : ℕ) → AreOctets skip → AreOctets later → AreOctets (cond blank skip (cond first (cond second ((digit_value c * 16 + digit_value d) ∷ later) []) []))
pair_octets true first second skip later c d p q = p
pair_octets false false second skip later c d p q = AreOctets-nil
pair_octets false true false skip later c d p q = AreOctets-nil
pair_octets false true true skip later c d p q = let high = digit_value_bound c in let low = digit_value_bound d in AreOctets-cons _ later (omega arith) q

pub spelled-octets : (text : List ℕ) → AreOctets (spelled text)
unfolding spelled
spelled-octets [] = AreOctets-nil
spelled-octets (c ∷ []) = AreOctets-nil
spelled-octets (c ∷ d ∷ text) = pair_octets (is_blank c) (is_hex_digit c) (is_hex_digit d) (spelled (d ∷ text)) (spelled text) c d (spelled-octets (d ∷ text)) (spelled-octets text)
