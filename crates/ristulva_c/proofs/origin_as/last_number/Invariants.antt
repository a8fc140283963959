use Rattle.ristulva_c.proofs.Below.{◌≡◌, length, as_numbers_left}
use Rattle.ristulva_c.specs.Prelude.{last_number, last_behind}
use Rattle.ristulva_c.proofs.origin_as.last_number.Given as goal

-- the last of those that remain, or else the last so far, is the last of all
abbrev pub invariant-numbers : goal.invariant-numbers
invariant-numbers l = last_behind l.last (as_numbers_left l.left) ≡ last_number (as_numbers_left l.fn.numbers)

abbrev pub decreases-numbers : goal.decreases-numbers
decreases-numbers l = length (as_numbers_left l.left)
