-- The first bits of octets. Bits count from the highest bit of the first octet.
use Rattle.std.specs.Prelude.{◌≡◌, ℕ, ◌+◌, ◌-◌, ◌*◌, ◌/◌, ◌%◌, ◌^◌, ◌≤◌, List, [], ◌∷◌, ◌++◌, length, replicate, slice_index}
use Rattle.std.specs.Int.{bit_at}

-- the least number of octets that holds l bits
abbrev pub octets_for : ℕ → ℕ
octets_for l = (l + 7) / 8

-- bit i of octets, and 0 past their end
abbrev pub bit_of : List ℕ → ℕ → ℕ
bit_of b i = bit_at (slice_index b (i / 8)) (7 - i % 8)

-- no bit from position l on is set
abbrev pub HasNoBitPast : ℕ → List ℕ → Type 0
HasNoBitPast l b = (i : ℕ) → l ≤ i → bit_of b i ≡ 0

-- an octet with its first l bits, and 0 for the others
unfoldable pub first_bits : ℕ → ℕ → ℕ
first_bits l x = x / 2 ^ (8 - l) * 2 ^ (8 - l)

-- octets with their first l bits, and 0 for the others
abbrev pub leading_bits : ℕ → List ℕ → List ℕ
leading_bits l [] = []
leading_bits l (x ∷ b) = first_bits l x ∷ leading_bits (l - 8) b

-- an address of `width` octets: the first l bits of the octets, then zeros
unfoldable pub address_of : ℕ → ℕ → List ℕ → List ℕ
address_of width l b = leading_bits l b ++ replicate (width - length b) 0
