use Rattle.std.proofs.Common.{◌≡◌, ◌-◌}
use Rattle.ristulva_c.specs.Prelude.{IsCapabilities, capabilities_left}
use Rattle.ristulva_c.proofs.capabilities.next_capability.Given as goal

-- the parameters that were passed had no capabilities
abbrev pub invariant-parameter : goal.invariant-parameter
invariant-parameter l =
    record { lies : IsCapabilities l.octets l.cursor; left : capabilities_left l.octets l.cursor ≡ capabilities_left l.octets l.fn.cursor; same : l.cursor.end ≡ l.fn.cursor.end }

abbrev pub decreases-parameter : goal.decreases-parameter
decreases-parameter l = l.cursor.end - l.cursor.stop
