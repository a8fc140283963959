use Rattle.std.proofs.Common.{◌≡◌, [], length}
use Rattle.bgp_open.specs.Prelude.{capabilities_of}
use Rattle.bgp_open.proofs.capability_iter.CapabilityIter.begin.Given as goal

-- no parameter is begun, and those that were skipped are empty
abbrev pub invariant-parameter : goal.invariant-parameter
invariant-parameter l = (l.self.begun.now ≡ []) × (capabilities_of l.fn.self.later.now ≡ capabilities_of l.self.later.now)

abbrev pub decreases-parameter : goal.decreases-parameter
decreases-parameter l = length l.self.later.now
