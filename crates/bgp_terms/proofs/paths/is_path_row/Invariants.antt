use Rattle.std.proofs.Common.{◌≡◌, length}
use Rattle.bgp_open.specs.Prelude.{is_path_row}
use Rattle.bgp_terms.proofs.paths.is_path_row.Given as goal

abbrev pub invariant-families : goal.invariant-families
invariant-families l = is_path_row l.rest ≡ is_path_row l.value

abbrev pub decreases-families : goal.decreases-families
decreases-families l = length l.rest
