use Rattle.bgp_wire.proofs.Std.{◌≡◌, ◌++◌, length}
use Rattle.bgp_paths.specs.Prelude.{numbers_left, routes_with}
use Rattle.bgp_paths.proofs.path_routes.put_each.Given as goal

-- what is written so far, and the routes of what is left, are what was there and all the routes
abbrev pub invariant-run : goal.invariant-run
invariant-run g l = l.out ++ routes_with g.row.W (numbers_left l.left) l.rest ≡ l.initial.out ++ routes_with g.row.W (numbers_left l.initial.left) l.octets

abbrev pub decreases-run : goal.decreases-run
decreases-run g l = length l.rest
