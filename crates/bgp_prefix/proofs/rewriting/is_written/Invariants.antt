use Rattle.bgp_wire.proofs.Std.{◌≡◌, length, flat_map}
use Rattle.bgp_prefix.specs.Prelude.{spelling_of, run_of}
use Rattle.bgp_prefix.proofs.rewriting.is_written.Given as goal

-- where what is left is as it is written, all octets are
abbrev pub invariant-run : goal.invariant-run
invariant-run g l = flat_map spelling_of (run_of g.row.W l.rest).0 ≡ l.rest → flat_map spelling_of (run_of g.row.W l.octets).0 ≡ l.octets

abbrev pub decreases-run : goal.decreases-run
decreases-run g l = length l.rest
