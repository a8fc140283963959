use Rattle.std.proofs.Common.{◌≡◌, length}
use Rattle.bgp_attr.specs.Prelude.{kept_segments_of}
use Rattle.bgp_attr.proofs.first_kept.first_kept.Given as goal

-- what is kept of what is left is what is kept of the whole
abbrev pub invariant-path : goal.invariant-path
invariant-path l = kept_segments_of l.form l.rest ≡ kept_segments_of l.form l.octets

abbrev pub decreases-path : goal.decreases-path
decreases-path l = length l.rest
