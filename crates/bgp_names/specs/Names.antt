-- A number's name in a registry.
use Rattle.std.specs.Prelude.{ℕ, ◌==◌, List, [], ◌∷◌, if◌then◌else◌}

-- the name of a number in the rows of a registry: that of its first row, none where it has no row
abbrev pub named : List (ℕ × List ℕ) → ℕ → List ℕ
named [] number = []
named (row ∷ rows) number = if row.0 == number then row.1 else named rows number
