use Rattle.bgp_wire.proofs.Std.{◌≡◌, ltb, length, map, list_any}
use Rattle.bgp_attr.specs.Prelude.{opaque_value}
use Rattle.bgp_update.proofs.told_slot.are_uncommon.Given as goal

-- none of those so far is
abbrev pub invariant-row : goal.invariant-row
invariant-row l = list_any (λ o. ltb 40 o.kind) (map opaque_value l.others) ≡ list_any (λ o. ltb 40 o.kind) (map opaque_value l.left)

abbrev pub decreases-row : goal.decreases-row
decreases-row l = length l.left
