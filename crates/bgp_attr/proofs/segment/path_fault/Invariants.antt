use Rattle.std.proofs.Common.{◌≡◌, length}
use Rattle.bgp_attr.specs.Prelude.{segments_of}
use Rattle.bgp_attr.proofs.segment.path_fault.Given as goal

-- what is left has the same rest
abbrev pub invariant-path : goal.invariant-path
invariant-path l = (segments_of l.form l.rest).1 ≡ (segments_of l.form l.octets).1

abbrev pub decreases-path : goal.decreases-path
decreases-path l = length l.rest
