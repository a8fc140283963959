-- What a failed write leaves.
use Rattle.std.specs.Prelude.{◌≡◌, ℕ, List, ◌++◌}

-- what was there, and some octets after it
abbrev pub Extends : List ℕ → List ℕ → Type 0
Extends old new = (more : List ℕ) × (new ≡ old ++ more)
