use Rattle.bgp_attr.specs.Prelude.{canonical}
use Rattle.bgp_wire.proofs.Writes.{IsWritten}
use Rattle.bgp_update.specs.Prelude.{slot}
use Rattle.bgp_update.proofs.SlotSteps.{so_far}
use Rattle.bgp_update.proofs.body_writing.put_attributes.Given as goal

-- the attributes so far are written
abbrev pub invariant-types : goal.invariant-types
invariant-types g l =
    IsWritten (canonical l.ctx) (λ a. Unit {0}) (so_far (slot (g.S.HasAttributes.attrs l.attrs)) l.kinds l.kind-index) (g.O.Output.written l.initial.out) (g.O.Output.written l.out)
