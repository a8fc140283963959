use Rattle.bgp_wire.proofs.Std.{◌≡◌, length, flat_map}
use Rattle.bgp_update.specs.Prelude.{with_others, slot}
use Rattle.bgp_update.proofs.slot_iter.first_slot.Given as goal

-- those so far have none
abbrev pub invariant-types : goal.invariant-types
invariant-types g l = flat_map (slot (with_others l.kept (g.S.OfType.others l.others))) l.fn.kinds.now ≡ flat_map (slot (with_others l.kept (g.S.OfType.others l.others))) l.kinds.now

abbrev pub decreases-types : goal.decreases-types
decreases-types g l = length l.kinds.now
