-- Lists of types.
use Rattle.bgp_words.proofs.Prelude.{◌≡◌, ◌≢◌, ℕ, ◌<◌, ◌^◌, Bool, true, false, not, ◌&&◌, ◌||◌, ◌==◌, nat_le, nat_lt, List, [], ◌∷◌, length, get_or}
use Rattle.bgp_words.proofs.Prelude.{Some, None, Result, Ok, Err, refl, sym, ap, ◌∙◌, arith, and_parts, leb-true, ltb-true, le-leb, all_ascii_digits}
use Rattle.bgp_words.proofs.Prelude.{ParsesUnsigned, digits_value, also, when, has_entry, all_but, octet_of}
use Rattle.std.proofs.lemmas.Bool.{lt-ltb}
use Rattle.std.proofs.lemmas.Str.Parse.{IsNumeralModel, numerals_by_value, parse_plain, tells_all_ascii_digits}
use Rattle.std.specs.Result.{OkIff, result_ok}
use Rattle.bgp_wire.specs.Prelude as wire
use Rattle.bgp_attr.specs.Judgement.{recognised}

-- ---- numbers

own : IsNumeralModel (λ ds. all_ascii_digits ds ≡ true) (digits_value 10)
own = numerals_by_value _ tells_all_ascii_digits

abbrev is_octet : List ℕ → Bool
is_octet word = nat_lt 0 (length word) && (all_ascii_digits word && nat_le (digits_value 10 word) 255)

number : (word : List ℕ) → all_ascii_digits word ≡ true → 0 < length word → digits_value 10 word < 256 → octet_of word ≡ Some (digits_value 10 word)
number word digits some small = rw (lt-ltb 0 (length word) some, digits, le-leb (digits_value 10 word) 255 (omega arith)) refl

no_number : (b : Bool) (n : ℕ) → (b ≡ true → ⊥) → None ≡ when b n
no_number true n h = absurd (h refl)
no_number false n h = refl

by_result : {E : Type 0} (word : List ℕ) (r : Result ℕ E)
    → OkIff r ((all_ascii_digits word ≡ true) × (0 < length word) × (digits_value 10 word < 2 ^ 8)) (digits_value 10 word)
    → result_ok r ≡ octet_of word
by_result word (Ok n) h = ap Some h.1 ∙ sym (number word h.0.0 h.0.1 h.0.2)
by_result word (Err e) h = no_number (is_octet word) (digits_value 10 word) (λ test.
    let some = and_parts (nat_lt 0 (length word)) (all_ascii_digits word && nat_le (digits_value 10 word) 255) test in
    let rest = and_parts (all_ascii_digits word) (nat_le (digits_value 10 word) 255) some.1 in
    let small = leb-true (digits_value 10 word) 255 rest.1 in
    h (rest.0, ltb-true 0 (length word) some.0, omega arith))

-- the result of `parse` for a word without a sign
pub parsed : {E : Type 0} (word : List ℕ) (r : Result ℕ E) → ParsesUnsigned 8 10 word r → get_or word 0 0 ≢ 43 → result_ok r ≡ octet_of word
parsed word r h plain = by_result word r (parse_plain own 8 word r h plain)

-- ---- all other types

abbrev kept : {A : Type 0} → List (ℕ × A) → (ℕ → Bool) → ℕ → Bool
kept [] set = set
kept (row ∷ rows) set = also row.0 (kept rows set)

apart : (b c d s : Bool) → not c ≡ (not d && not s) → not (b || c) ≡ (not (b || d) && not s)
apart true c d s h = refl
apart false c d s h = h

outside : {A : Type 0} (rows : List (ℕ × A)) (set : ℕ → Bool) (kind : ℕ) → not (kept rows set kind) ≡ (not (has_entry kind rows) && not (set kind))
outside [] set kind = refl
outside (row ∷ rows) set kind = apart (kind == row.0) (kept rows set kind) (has_entry kind rows) (set kind) (outside rows set kind)

pub others : (set : ℕ → Bool) → wire.all_but (kept recognised set) ≡ all_but set
others set i kind = nat_lt kind 256 && outside recognised set kind i
