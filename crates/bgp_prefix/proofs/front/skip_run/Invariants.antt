use Rattle.std.proofs.Common.{◌≡◌, ◌+◌, length}
use Rattle.bgp_prefix.specs.Prelude.{run_of}
use Rattle.bgp_prefix.proofs.front.skip_run.Given as goal

-- the count so far and the prefixes of what is left are all the prefixes, and the same rest follows
abbrev pub invariant-run : goal.invariant-run
invariant-run g l = record {
  count : l.count + length (run_of g.row.W l.rest).0 ≡ length (run_of g.row.W l.octets).0;
  rest : (run_of g.row.W l.rest).1 ≡ (run_of g.row.W l.octets).1;
}

abbrev pub decreases-run : goal.decreases-run
decreases-run g l = length l.rest
