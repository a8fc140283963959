-- Hexadecimal text: pairs of digits of either case, with spaces, CR and LF between pairs.
use Rattle.std.specs.Prelude.{ℕ, ◌+◌, ◌*◌, Bool, ◌||◌, ◌==◌, List, [], ◌∷◌, Option, None, Some, unwrap_or, if◌then◌else◌}
use Rattle.hex.specs.Hex.{hex_digit_value, is_hex_digit}

-- a space, a CR or a LF
abbrev pub is_blank : ℕ → Bool
is_blank c = c == 32 || c == 13 || c == 10

abbrev pub digit_value : ℕ → ℕ
digit_value c = unwrap_or (hex_digit_value c) 0

-- the octets of the pairs, up to the first character that is bad
unfoldable pub spelled : List ℕ → List ℕ
spelled [] = []
spelled (c ∷ []) = []
spelled (c ∷ d ∷ text) =
    if is_blank c then spelled (d ∷ text) else (
    if is_hex_digit c then (if is_hex_digit d then (digit_value c * 16 + digit_value d) ∷ spelled text else []) else [])

-- the offset of the first bad character, where the text begins at offset n: one in a pair that isn't a digit, one between
-- pairs that is neither a digit nor a blank, or a digit after which the text ends
unfoldable pub bad_from : ℕ → List ℕ → Option ℕ
bad_from n [] = None
bad_from n (c ∷ []) = if is_blank c then None else Some n
bad_from n (c ∷ d ∷ text) =
    if is_blank c then bad_from (n + 1) (d ∷ text) else (
    if is_hex_digit c then (if is_hex_digit d then bad_from (n + 2) text else Some (n + 1)) else Some n)
