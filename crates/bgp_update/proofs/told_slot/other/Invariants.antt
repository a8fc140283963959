use Rattle.bgp_wire.proofs.Std.{◌≡◌, eqb, length, map, find}
use Rattle.bgp_attr.specs.Prelude.{opaque_value}
use Rattle.bgp_update.proofs.told_slot.other.Given as goal

-- none of those so far is of the type
abbrev pub invariant-row : goal.invariant-row
invariant-row l = find (λ o. eqb o.kind l.kind) (map opaque_value l.others) ≡ find (λ o. eqb o.kind l.kind) (map opaque_value l.left)

abbrev pub decreases-row : goal.decreases-row
decreases-row l = length l.left
