use Rattle.std.proofs.Common.{◌≡◌, take}
use Rattle.bgp_wire.proofs.list.List.copy.Given as goal

-- the copies so far are the items so far
abbrev pub invariant-loop-item : goal.invariant-loop-item
invariant-loop-item g l = (l.copies ≡ take l.item-index l.item-items) × (l.item-items ≡ l.self)
