use Rattle.std.specs.Prelude.{◌≡◌, nat_lt, length}
use Rattle.bgp_attr.specs.Prelude.{communities_left}
use Rattle.bgp_clean.proofs.checking.has_more.Given as goal

-- there are more than allowed exactly where more remain than are still allowed
abbrev pub invariant-row : goal.invariant-row
invariant-row l = nat_lt l.most (length (communities_left l.values)) ≡ nat_lt l.free (length (communities_left l.left))
