use Rattle.bgp_wire.proofs.Std.{◌≡◌, ◌++◌, length}
use Rattle.bgp_paths.specs.Prelude.{plain_routes}
use Rattle.bgp_paths.proofs.plain_routes.put_prefixes.Given as goal

-- what is written so far, and the prefixes of what is left, are what was there and all the prefixes
abbrev pub invariant-run : goal.invariant-run
invariant-run g l = l.out ++ plain_routes g.row.W l.rest ≡ l.initial.out ++ plain_routes g.row.W l.octets

abbrev pub decreases-run : goal.decreases-run
decreases-run g l = length l.rest
