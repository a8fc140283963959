use Rattle.std.proofs.Common.{◌≡◌, take, map}
use Rattle.bgp_update.specs.Prelude.{narrow_segment}
use Rattle.bgp_update.proofs.two_octets.narrow_path.Given as goal

-- the segments so far
abbrev pub invariant-path : goal.invariant-path
invariant-path l = (l.segments ≡ map narrow_segment (take l.segment-index l.segment-items)) × (l.segment-items ≡ l.path.segments)
