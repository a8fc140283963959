use Rattle.std.proofs.Common.{◌≡◌, length}
use Rattle.bgp_wire.specs.Prelude.{pieces}
use Rattle.bgp_open.specs.Prelude.{one_parameter}
use Rattle.bgp_open.proofs.parameter.parameters_fault.Given as goal

-- what is left has the same rest
abbrev pub invariant-row : goal.invariant-row
invariant-row l = (pieces one_parameter l.rest).1 ≡ (pieces one_parameter l.octets).1

abbrev pub decreases-row : goal.decreases-row
decreases-row l = length l.rest
