-- Octets as digits.
use Rattle.bgp_engine.proofs.Prelude.{◌≡◌, ℕ, ◌/◌, ◌%◌, List, [], ◌∷◌, ◌++◌, refl, sym, ap, ◌∙◌, append_assoc, slice_index, OnOk, Result, Ok}
use Rattle.bgp_engine.proofs.Prelude.{Err, is_ok, if◌then◌else◌, encode_lower, encode_with, lower_digits}

pub encode_lower-append : (a b : List ℕ) → encode_lower (a ++ b) ≡ encode_lower a ++ encode_lower b
unfolding encode_with
encode_lower-append [] b = refl
encode_lower-append (x ∷ a) b = ap (λ (t : List ℕ). slice_index lower_digits (x / 16) ∷ slice_index lower_digits (x % 16) ∷ t) (encode_lower-append a b)

-- the digits of a header and of a body are those of their message
hex_line_is : (header body : List ℕ) → encode_lower header ++ (encode_lower body ++ 10 ∷ []) ≡ encode_lower (header ++ body) ++ 10 ∷ []
hex_line_is header body = sym (append_assoc (encode_lower header) (encode_lower body) (10 ∷ [])) ∙ ap (λ (t : List ℕ). t ++ 10 ∷ []) (sym (encode_lower-append header body))

-- the same appended to a text, where the newline could be added
pub ok_hex_line : {E : Type 0} (r : Result (Unit {0}) E) (header body old one two three : List ℕ)
    → one ≡ old ++ encode_lower header → two ≡ one ++ encode_lower body
    → three ≡ (if is_ok r then two ++ 10 ∷ [] else two) → OnOk r (three ≡ old ++ (encode_lower (header ++ body) ++ 10 ∷ []))
ok_hex_line (Err e) header body old one two three is_one is_two is_three = tt
ok_hex_line (Ok u) header body old one two three is_one is_two is_three =
    is_three ∙ rw (is_two, is_one, append_assoc, append_assoc) (ap (λ (t : List ℕ). old ++ t) (hex_line_is header body))
