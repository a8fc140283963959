use Rattle.std.proofs.Common.{◌≡◌, length}
use Rattle.bgp_attr.specs.Prelude.{segments_of, path_has_zero}
use Rattle.bgp_attr.proofs.segment.why_malformed.Given as goal

-- what is left has the same rest, and a zero is in it exactly where one is in the whole
abbrev pub invariant-path : goal.invariant-path
invariant-path l = ((segments_of l.form l.rest).1 ≡ (segments_of l.form l.octets).1) × (path_has_zero l.form l.rest ≡ path_has_zero l.form l.octets)

abbrev pub decreases-path : goal.decreases-path
decreases-path l = length l.rest
