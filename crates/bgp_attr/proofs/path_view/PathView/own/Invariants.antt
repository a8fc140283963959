use Rattle.std.proofs.Common.{◌≡◌, ◌++◌}
use Rattle.bgp_attr.specs.Prelude.{path_value, segments_left}
use Rattle.bgp_attr.proofs.path_view.PathView.own.Given as goal

-- the segments so far, and those left, are all
abbrev pub invariant-path : goal.invariant-path
invariant-path l = l.segments ++ segments_left l.segment-iterator ≡ (path_value l.fn.self).segments
