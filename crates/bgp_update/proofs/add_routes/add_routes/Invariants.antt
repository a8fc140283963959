use Rattle.std.proofs.Common.{◌≡◌, ◌++◌}
use Rattle.bgp_prefix.specs.Prelude.{prefixes_left}
use Rattle.bgp_update.proofs.add_routes.add_routes.Given as goal

-- those so far, and those left, are all
abbrev pub invariant-run : goal.invariant-run
invariant-run g l = l.to.items ++ prefixes_left l.left ≡ l.initial.to.items ++ prefixes_left l.fn.routes
