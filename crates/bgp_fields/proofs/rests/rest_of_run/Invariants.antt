use Rattle.bgp_fields.proofs.Prelude.{◌≡◌, length, run_of}
use Rattle.bgp_fields.proofs.rests.rest_of_run.Given as goal

-- what is left has the same rest
abbrev pub invariant-run : goal.invariant-run
invariant-run l = (run_of 4 l.rest).1 ≡ (run_of 4 l.octets).1

abbrev pub decreases-run : goal.decreases-run
decreases-run l = length l.rest
