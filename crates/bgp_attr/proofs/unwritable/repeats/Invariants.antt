use Rattle.std.proofs.Common.{◌≡◌, length}
use Rattle.bgp_attr.specs.Prelude.{repeats}
use Rattle.bgp_attr.proofs.unwritable.repeats.Given as goal

-- what is left repeats exactly where the whole does
abbrev pub invariant-row : goal.invariant-row
invariant-row l = repeats l.rest ≡ repeats l.values

abbrev pub decreases-row : goal.decreases-row
decreases-row l = length l.rest
