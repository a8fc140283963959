-- No recognised type is left out.
use Rattle.bgp_words.proofs.Prelude.{◌≡◌, ℕ, ◌<◌, Bool, true, false, not, ◌&&◌, ◌==◌, nat_le, nat_lt, List, [], ◌∷◌, length, Option, None, Some, option_map}
use Rattle.bgp_words.proofs.Prelude.{refl, sym, subst, inl, inr, cond, codes, arith, and_parts, leb-true, ltb-true, not-true, or_cases, eqb-true}
use Rattle.bgp_words.proofs.Prelude.{all_ascii_digits, digits_value, Row, Text, first_of, is_recognised, also, none_of_them, ◌>>=◌, when, drops_by, is_set}
use Rattle.bgp_words.proofs.Prelude.{types_in, all_but, is_other, octet_of, type_of, types_behind, words_of}
use Rattle.std.proofs.lemmas.Option.{same_Some}
use Rattle.bgp_words.specs.Laws.{AreUnrecognised}

-- ---- steps that may fail

given : {A B : Type 0} (o : Option A) (f : A → Option B) (y : B) → (o >>= f) ≡ Some y → (x : A) × (o ≡ Some x) × (f x ≡ Some y)
given None f y e = absurd cc
given (Some x) f y e = (x, refl, e)

applies : {A : Type 0} (b : Bool) (x y : A) → when b x ≡ Some y → (b ≡ true) × (x ≡ y)
applies true x y e = (refl, cc)
applies false x y e = absurd cc

-- ---- a word

is_small : (word : Text) (n : ℕ) → octet_of word ≡ Some n → n < 256
is_small word n e =
    let is = applies (nat_lt 0 (length word) && (all_ascii_digits word && nat_le (digits_value 10 word) 255)) (digits_value 10 word) n e in
    let rest = and_parts (nat_lt 0 (length word)) (all_ascii_digits word && nat_le (digits_value 10 word) 255) is.0 in
    let small = leb-true (digits_value 10 word) 255 (and_parts (all_ascii_digits word) (nat_le (digits_value 10 word) 255) rest.1).1 in
    omega (arith, small, is.1)

is_type : (word : Text) (n : ℕ) → type_of word ≡ Some n → (is_recognised n ≡ false) × (n < 256)
is_type word n e =
    let g = given (octet_of word) (λ kind. when (not (is_recognised kind)) kind) n e in
    let is = applies (not (is_recognised g.0)) g.0 n g.2 in
    (subst (λ (k : ℕ). is_recognised k ≡ false) is.1 (not-true (is_recognised g.0) is.0), subst (λ (k : ℕ). k < 256) is.1 (is_small word g.0 g.1))

-- ---- a list

one_more : (types : ℕ → Bool) (n : ℕ) → AreUnrecognised types → (is_recognised n ≡ false) × (n < 256) → AreUnrecognised (also n types)
one_more types n all is kind there = elim (or_cases (kind == n) (types kind) there) [
  | inl same ↦ subst (λ (k : ℕ). (is_recognised k ≡ false) × (k < 256)) (sym (eqb-true kind n same)) is
  | inr old ↦ all kind old
]

behind : (words : List Text) (types found : ℕ → Bool) → AreUnrecognised types → types_behind types words ≡ Some found → AreUnrecognised found
behind [] types found all e = subst (λ (o : ℕ → Bool). AreUnrecognised o) (same_Some types found e) all
behind (word ∷ words) types found all e =
    let g = given (type_of word) (λ kind. types_behind (also kind types) words) found e in
    behind words (also g.0 types) found (one_more types g.0 all (is_type word g.0 g.1)) g.2

none_there : AreUnrecognised none_of_them
none_there kind there = absurd cc

list : (o : Option Text) (found : ℕ → Bool) → types_in o ≡ Some found → AreUnrecognised found
list None found e = subst (λ (types : ℕ → Bool). AreUnrecognised types) (same_Some none_of_them found e) none_there
list (Some text) found e = behind (words_of text) none_of_them found none_there e

-- ---- all other types

others : (types : ℕ → Bool) → AreUnrecognised (all_but types)
others types kind there =
    let parts = and_parts (nat_lt kind 256) (is_other types kind) there in
    let other = and_parts (not (is_recognised kind)) (not (types kind)) parts.1 in
    (not-true (is_recognised kind) other.0, ltb-true kind 256 parts.0)

all_others : (o : Option (ℕ → Bool)) (found : ℕ → Bool) → option_map all_but o ≡ Some found → AreUnrecognised found
all_others None found e = absurd cc
all_others (Some types) found e = subst (λ (s : ℕ → Bool). AreUnrecognised s) (same_Some (all_but types) found e) (others types)

either : (b : Bool) (pass drop : Option Text) (found : ℕ → Bool)
    → cond b (option_map all_but (types_in pass)) (types_in drop) ≡ Some found → AreUnrecognised found
either true pass drop found e = all_others (types_in pass) found e
either false pass drop found e = list drop found e

pub are_unrecognised : (o : Option (Text × List Row)) (found : ℕ → Bool) → drops_by o ≡ Some found → AreUnrecognised found
are_unrecognised None found e = absurd cc
are_unrecognised (Some p) found e = either (is_set (codes "drop-unknown") p.1) (first_of (codes "pass") p.1) (first_of (codes "drop") p.1) found e
