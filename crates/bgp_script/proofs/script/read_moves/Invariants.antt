use Rattle.std.proofs.Common.{◌≡◌, length}
use Rattle.bgp_script.specs.Script.{moves_of}
use Rattle.bgp_script.proofs.MoveLines.{behind_moves}
use Rattle.bgp_script.proofs.script.read_moves.Given as goal

abbrev pub invariant-moves : goal.invariant-moves
invariant-moves l = behind_moves l.moves (moves_of l.speakers l.lines.told) ≡ moves_of l.speakers l.fn.lines.told

abbrev pub decreases-moves : goal.decreases-moves
decreases-moves l = length l.lines.told
