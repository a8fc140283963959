use Rattle.bgp_fields.proofs.Prelude.{◌≡◌, ◌≤◌, length}
use Rattle.bgp_paths.specs.Prelude.{path_run_of}
use Rattle.bgp_fields.proofs.path_place.rest_of_routes.Given as goal

-- what is left has the same rest
abbrev pub invariant-run : goal.invariant-run
invariant-run l = ((path_run_of 4 l.rest).1 ≡ (path_run_of 4 l.octets).1) × (length l.rest ≤ length l.octets)

abbrev pub decreases-run : goal.decreases-run
decreases-run l = length l.rest
