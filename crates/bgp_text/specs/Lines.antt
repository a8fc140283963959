-- Lines of one value each.
use Rattle.std.specs.Prelude.{ℕ, List, [], ◌∷◌, ◌++◌, Option, None, Some}

-- a label, the text of a value, and a newline
abbrev pub line_of : {A : Type 0} → List ℕ → (A → List ℕ) → A → List ℕ
line_of label shown value = label ++ (shown value ++ 10 ∷ [])

-- the lines of an optional value
abbrev pub where_there : {A : Type 0} → (A → List ℕ) → Option A → List ℕ
where_there lines None = []
where_there lines (Some value) = lines value
