use Rattle.std.proofs.Common.{◌≡◌}
use Rattle.bgp_update.specs.Prelude.{failed_by, slot}
use Rattle.bgp_update.proofs.SlotSteps.{so_far}
use Rattle.bgp_update.proofs.failed.Failed.of.Given as goal

-- the tests that the attributes so far fail
abbrev pub invariant-types : goal.invariant-types
invariant-types l = l.failed ≡ failed_by l.ctx (so_far (slot l.attrs) l.kinds l.kind-index)
