use Rattle.bgp_wire.proofs.Std.{◌≡◌, ◌++◌, length, flat_map}
use Rattle.bgp_wire.specs.Prelude.{Extends}
use Rattle.bgp_prefix.specs.Prelude.{spelling_of, run_of}
use Rattle.bgp_prefix.proofs.rewriting.append_octets.Given as goal

-- what is written so far, and the prefixes of what is left, are what was there and all the prefixes
abbrev pub invariant-run : goal.invariant-run
invariant-run g l = record {
  whole : g.O.Output.written l.out ++ flat_map spelling_of (run_of g.row.W l.rest).0 ≡ g.O.Output.written l.initial.out ++ flat_map spelling_of (run_of g.row.W l.octets).0;
  begins : Extends (g.O.Output.written l.initial.out) (g.O.Output.written l.out);
}

abbrev pub decreases-run : goal.decreases-run
decreases-run g l = length l.rest
