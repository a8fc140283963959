-- Numbers in decimal, without sign or leading zeros.
use Rattle.std.specs.Prelude.{ℕ, ◌+◌, ◌-◌, ◌*◌, Bool, false, not, ◌&&◌, ◌||◌, ◌==◌, nat_le, List, [], ◌∷◌, length, Option, Some, None, if◌then◌else◌}
use Rattle.bgp_wire.specs.Prelude.{◌>>=◌}
use Rattle.bgp_script.specs.Pieces.{pieces_at, one_piece, behind, if_done}

abbrev pub is_digit : ℕ → Bool
is_digit c = nat_le 48 c && nat_le c 57

-- the value of a digit
abbrev pub digit_of : ℕ → Option ℕ
digit_of c = if is_digit c then Some (c - 48) else None

-- the number whose digits are those of n and then these
abbrev pub digits_behind : ℕ → List ℕ → Option ℕ
digits_behind n [] = Some n
digits_behind n (c ∷ word) = do
  digit ← digit_of c
  digits_behind (n * 10 + digit) word

-- there are digits, and no leading zero
abbrev pub is_spelled : List ℕ → Bool
is_spelled [] = false
is_spelled (c ∷ word) = length word == 0 || not (c == 48)

abbrev pub number_of : List ℕ → Option ℕ
number_of word = if is_spelled word then digits_behind 0 word else None

abbrev pub at_most : ℕ → Option ℕ → Option ℕ
at_most most None = None
at_most most (Some n) = if nat_le n most then Some n else None

abbrev pub number_up_to : ℕ → List ℕ → Option ℕ
number_up_to most word = at_most most (number_of word)

-- ---- before other pieces

abbrev pub one_number : ℕ → List (List ℕ) → Option (ℕ × List (List ℕ))
one_number most [] = None
one_number most (piece ∷ pieces) = do
  n ← number_up_to most piece
  Some (n, pieces)

-- a number after a word
abbrev pub number_behind : List ℕ → ℕ → List (List ℕ) → Option (ℕ × List (List ℕ))
number_behind word most pieces = do
  numbers ← behind word pieces
  one_number most numbers

-- four numbers, each an octet, joined by dots
abbrev pub address_of : List ℕ → Option (List ℕ)
address_of word = do
  a ← one_number 255 (pieces_at 46 word)
  b ← one_number 255 a.1
  c ← one_number 255 b.1
  d ← one_number 255 c.1
  if_done d.1 (a.0 ∷ b.0 ∷ c.0 ∷ d.0 ∷ [])

-- an address after a word
abbrev pub address_behind : List ℕ → List (List ℕ) → Option (List ℕ × List (List ℕ))
address_behind word pieces = do
  addresses ← behind word pieces
  first ← one_piece addresses
  address ← address_of first.0
  Some (address, first.1)
