use Rattle.bgp_attr.specs.Prelude.{canonical}
use Rattle.bgp_wire.proofs.Writes.{IsWritten}
use Rattle.bgp_update.specs.Prelude.{with_others, slot}
use Rattle.bgp_update.proofs.SlotSteps.{so_far}
use Rattle.bgp_update.proofs.view_writing.put_attrs.Given as goal

-- the attributes so far are written
abbrev pub invariant-types : goal.invariant-types
invariant-types g l =
    IsWritten (canonical l.ctx) (λ a. Unit {0}) (so_far (slot (with_others l.kept (g.S.OfType.others l.others))) l.kinds l.kind-index) (g.O.Output.written l.initial.out) (g.O.Output.written l.out)
