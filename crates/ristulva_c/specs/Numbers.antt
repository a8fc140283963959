-- Numbers in sequence, by a cursor.
use Rattle.std.specs.Prelude.{◌≡◌, ◌==◌, ◌≤◌, ◌⊎◌, ℕ, List, length}
use Rattle.bgp_attr.specs.Prelude.{numbers_of}
use Rattle.ristulva_c.specs.declared.numbers.Numbers.{Numbers}
use Rattle.ristulva_c.specs.Prefixes.{between}

-- the cursor's offsets lie in the octets, and its numbers have two or four octets
pub record IsNumbers (octets : List ℕ) (cursor : Numbers) : Type 0 where
  pub in_order : cursor.at ≤ cursor.end
  pub within : cursor.end ≤ length octets
  pub known : (cursor.width ≡ 2) ⊎ (cursor.width ≡ 4)

-- the remaining numbers
abbrev pub numbers_left : List ℕ → Numbers → List ℕ
numbers_left octets cursor = numbers_of (cursor.width == 4) (between octets cursor.at cursor.end)
