use Rattle.std.proofs.Common.{◌≡◌, take, map}
use Rattle.bgp_update.specs.Prelude.{narrow_number}
use Rattle.bgp_update.proofs.two_octets.narrow_segment.Given as goal

-- the numbers so far
abbrev pub invariant-row : goal.invariant-row
invariant-row l = (l.numbers ≡ map narrow_number (take l.number-index l.number-items)) × (l.number-items ≡ l.segment.numbers)
