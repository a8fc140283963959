use Rattle.std.proofs.Common.{◌≡◌, ◌++◌}
use Rattle.bgp_update.specs.Prelude.{joined_value, joined_left}
use Rattle.bgp_update.proofs.joined_path.JoinedPathView.own.Given as goal

-- the segments so far, and those left, are all
abbrev pub invariant-path : goal.invariant-path
invariant-path l = l.segments ++ joined_left l.left ≡ (joined_value l.fn.self).segments
