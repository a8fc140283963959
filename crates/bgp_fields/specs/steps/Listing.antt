-- The content of a list after a write to some of its entries.
use Rattle.std.specs.Prelude.{ℕ, ◌+◌, List, ◌++◌, length, take, drop}

-- these are after the first `count` entries, and the rest is unchanged
abbrev pub listed : {T : Type 0} → ℕ → List T → List T → List T
listed count xs list = take count list ++ (xs ++ drop (count + length xs) list)
