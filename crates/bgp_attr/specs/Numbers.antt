-- Numbers of two or four octets, highest octet first (RFC 4271, section 4), and rows of them.
use Rattle.std.specs.Prelude.{◌≡◌, ℕ, Bool, true, false, List, [], ◌∷◌, ◌++◌, ◌&&◌, ◌==◌, length, take, drop, Option, Some, if◌then◌else◌}
use Rattle.std.specs.List.{flat_map, list_any}
use Rattle.std.specs.Int.{w16, w32, to_be_bytes, from_be_bytes}
use Rattle.bgp_wire.specs.Prelude.{pieces, first_octets, ◌>>=◌}

-- the length of a number: four octets where it is wide, else two
abbrev pub number_width : Bool → ℕ
number_width wide = if wide then 4 else 2

abbrev pub number_in : Bool → List ℕ → ℕ
number_in wide b = if wide then from_be_bytes w32 b else from_be_bytes w16 b

-- b is the number n
pub record IsNumber (wide : Bool) (n : ℕ) (b : List ℕ) : Type 0 where
  pub as_wide : length b ≡ number_width wide
  pub value : n ≡ number_in wide b

-- the number at the front of octets, and what follows it
unfoldable pub one_number : Bool → List ℕ → Option (ℕ × List ℕ)
one_number wide b = do
  octets ← first_octets (number_width wide) b
  Some (number_in wide octets.0, octets.1)

-- the numbers that octets begin with
abbrev pub numbers_of : Bool → List ℕ → List ℕ
numbers_of wide b = (pieces (one_number wide) b).0

-- the octets written for a number, and for a row of them
abbrev pub number_octets : Bool → ℕ → List ℕ
number_octets wide n = if wide then to_be_bytes w32 n else to_be_bytes w16 n

abbrev pub row_octets : Bool → List ℕ → List ℕ
row_octets wide numbers = flat_map (number_octets wide) numbers

-- ---- large communities: three numbers of four octets each (RFC 8092, section 3)

-- b is these three numbers
pub record IsTriple (triple : List ℕ) (b : List ℕ) : Type 0 where
  pub twelve : length b ≡ 12
  pub numbers : triple ≡ from_be_bytes w32 (take 4 b) ∷ from_be_bytes w32 (take 4 (drop 4 b)) ∷ from_be_bytes w32 (take 4 (drop 8 b)) ∷ []

-- the three numbers at the front of octets, and what follows them
unfoldable pub one_triple : List ℕ → Option (List ℕ × List ℕ)
one_triple b = do
  x ← one_number true b
  y ← one_number true x.1
  z ← one_number true y.1
  Some (x.0 ∷ y.0 ∷ z.0 ∷ [], z.1)

abbrev pub triples_of : List ℕ → List (List ℕ)
triples_of b = (pieces one_triple b).0

abbrev pub same_triple : List ℕ → List ℕ → Bool
same_triple (a ∷ b ∷ c ∷ []) (x ∷ y ∷ z ∷ []) = (a == x) && ((b == y) && (c == z))
same_triple _ _ = false

-- the triples of xs without duplicates and without those in `before`
abbrev pub once_behind : List (List ℕ) → List (List ℕ) → List (List ℕ)
once_behind before [] = []
once_behind before (x ∷ xs) =
    if list_any (same_triple x) before then once_behind (before ++ x ∷ []) xs else x ∷ once_behind (before ++ x ∷ []) xs

-- the triples without duplicates, each where it is first
abbrev pub each_once : List (List ℕ) → List (List ℕ)
each_once xs = once_behind [] xs

abbrev pub triple_octets : List ℕ → List ℕ
triple_octets triple = row_octets true triple
