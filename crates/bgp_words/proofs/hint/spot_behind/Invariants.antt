use Rattle.bgp_words.proofs.Prelude.{◌≡◌, length, spot_behind}
use Rattle.bgp_words.proofs.hint.spot_behind.Given as goal

abbrev pub invariant-text : goal.invariant-text
invariant-text l = spot_behind l.spot l.left ≡ spot_behind l.fn.at l.fn.text

abbrev pub decreases-text : goal.decreases-text
decreases-text l = length l.left
