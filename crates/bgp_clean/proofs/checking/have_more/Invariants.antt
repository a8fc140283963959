use Rattle.std.specs.Prelude.{◌≡◌, nat_lt}
use Rattle.bgp_attr.specs.Prelude.{segments_left}
use Rattle.bgp_clean.specs.Limits.{numbers_in}
use Rattle.bgp_clean.proofs.checking.have_more.Given as goal

abbrev pub invariant-path : goal.invariant-path
invariant-path l = nat_lt l.most (numbers_in (segments_left l.segments)) ≡ nat_lt l.free (numbers_in (segments_left l.left))
