use Rattle.bgp_attr.specs.Prelude.{canonical}
use Rattle.bgp_wire.proofs.Writes.{IsWritten}
use Rattle.bgp_update.specs.Prelude.{slot, told_attrs}
use Rattle.bgp_update.proofs.SlotSteps.{so_far}
use Rattle.bgp_update.proofs.narrow_writing.put_told_attrs.Given as goal

-- the attributes so far are written
abbrev pub invariant-types : goal.invariant-types
invariant-types l = IsWritten (canonical l.ctx) (λ a. Unit {0}) (so_far (slot (told_attrs l.kept l.others.row.now)) l.kinds l.kind-index) l.initial.out.items l.out.items
