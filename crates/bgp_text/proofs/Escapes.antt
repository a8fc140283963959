-- The characters of a text, and whether octets are UTF-8.
use Rattle.bgp_text.proofs.Prelude.{◌≡◌, ℕ, Bool, true, false, List, [], ◌∷◌, length, chars, arith, refl, IsUtf8, is_utf8, chars-nil, IsUtf8-from_is_utf8}
use Rattle.bgp_text.proofs.Prelude.{is_utf8-from_IsUtf8}

pub no_characters : (text : List ℕ) → length text ≡ 0 → chars text ≡ []
no_characters [] none = chars-nil
no_characters (b ∷ bs) none = absurd (omega arith)

pub is_text : (octets : List ℕ) → IsUtf8 octets → is_utf8 octets ≡ true
is_text octets text = is_utf8-from_IsUtf8 octets text

pub is_no_text : (octets : List ℕ) → ¬ (IsUtf8 octets) → is_utf8 octets ≡ false
is_no_text octets no_text = at (is_utf8 octets) refl
  where
    at : (b : Bool) → is_utf8 octets ≡ b → is_utf8 octets ≡ false
    at true e = absurd (no_text (IsUtf8-from_is_utf8 octets e))
    at false e = e
