-- Tables: rows of a number and an entry.
use Rattle.std.specs.Prelude.{ℕ, Bool, ◌==◌, List, [], ◌∷◌, if◌then◌else◌}
use Rattle.std.specs.List.{list_any}

-- a row has the number
abbrev pub has_entry : {A : Type 0} → ℕ → List (ℕ × A) → Bool
has_entry kind rows = list_any (λ row. kind == row.0) rows

-- the entry of the first row with the number, or that of all other numbers
abbrev pub entry_of : {A : Type 0} → ℕ → List (ℕ × A) → A → A
entry_of kind [] other = other
entry_of kind (row ∷ rows) other = if kind == row.0 then row.1 else entry_of kind rows other
