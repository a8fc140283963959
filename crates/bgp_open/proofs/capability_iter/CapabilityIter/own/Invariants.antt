use Rattle.std.proofs.Common.{◌≡◌, ◌++◌}
use Rattle.bgp_open.specs.Prelude.{capabilities_left}
use Rattle.bgp_open.proofs.capability_iter.CapabilityIter.own.Given as goal

-- the list so far and what is left are all
abbrev pub invariant-loop-capability : goal.invariant-loop-capability
invariant-loop-capability l = l.caps ++ capabilities_left l.capability-iterator ≡ capabilities_left l.fn.self
