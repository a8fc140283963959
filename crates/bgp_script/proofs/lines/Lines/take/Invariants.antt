use Rattle.std.proofs.Common.{◌≡◌, ◌+◌, ◌≤◌, length}
use Rattle.bgp_script.specs.Lines.{left_behind, next_told}
use Rattle.bgp_script.proofs.lines.Lines.take.Given as goal

abbrev pub invariant-lines : goal.invariant-lines
invariant-lines l = record {
  same : next_told (left_behind l.self-inside.count l.self-inside.rest.now) ≡ next_told l.fn.self;
  within : l.self-inside.count + length l.self-inside.rest.now ≤ 1048576;
}

abbrev pub decreases-lines : goal.decreases-lines
decreases-lines l = length l.self-inside.rest.now
