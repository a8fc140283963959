use Rattle.std.proofs.Common.{◌≡◌, ◌++◌, length, map}
use Rattle.bgp_attr.specs.Prelude.{opaque_value}
use Rattle.bgp_update.proofs.others.own_others.Given as goal

-- those so far, and those left, are all
abbrev pub invariant-row : goal.invariant-row
invariant-row l = l.owned ++ map opaque_value l.left ≡ map opaque_value l.others

abbrev pub decreases-row : goal.decreases-row
decreases-row l = length l.left
