-- The number of rows of a path's numbers.
use Rattle.std.specs.Prelude.{◌+◌, ℕ, List, [], ◌∷◌, length}
use Rattle.bgp_prefix.specs.declared.as_number.AsNumber.{AsNumber}
use Rattle.bgp_attr.specs.declared.path.Segment.{Segment}
use Rattle.ristulva_c.specs.declared.number_rows.NumberRow.{NumberRow}

abbrev pub numbers_in : List Segment → ℕ
numbers_in [] = 0
numbers_in (s ∷ later) = length s.numbers + numbers_in later

-- a row with another number
abbrev pub with_number : NumberRow → AsNumber → NumberRow
with_number row n = record row { number = n.0 }
