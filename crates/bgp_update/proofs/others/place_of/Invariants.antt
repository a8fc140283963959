use Rattle.std.proofs.Common.{◌≡◌, ◌+◌, length, map}
use Rattle.bgp_attr.specs.Prelude.{opaque_value}
use Rattle.bgp_update.specs.Prelude.{place_in}
use Rattle.bgp_update.proofs.others.place_of.Given as goal

-- those so far are lower
abbrev pub invariant-row : goal.invariant-row
invariant-row l = (place_in l.kind (map opaque_value l.others) ≡ l.at + place_in l.kind (map opaque_value l.left)) × (l.at + length l.left ≡ length l.others)

abbrev pub decreases-row : goal.decreases-row
decreases-row l = length l.left
