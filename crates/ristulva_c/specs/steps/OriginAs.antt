-- The last number of a path, as it is found from its first segment on.
use Rattle.std.specs.Prelude.{ℕ, List, [], ◌∷◌, Option, Some}
use Rattle.bgp_prefix.specs.declared.as_number.AsNumber.{AsNumber}
use Rattle.bgp_attr.specs.declared.path.Segment.{Segment}
use Rattle.ristulva_c.specs.Facts.{last_by}

-- the last of some numbers, or else this
abbrev pub last_behind : Option ℕ → List AsNumber → Option ℕ
last_behind last [] = last
last_behind last (n ∷ later) = last_behind (Some n.0) later

-- what the last of some segments ends in, or else this
abbrev pub origin_behind : Option ℕ → List Segment → Option ℕ
origin_behind last [] = last
origin_behind last (s ∷ later) = origin_behind (last_by s.kind s.numbers) later
