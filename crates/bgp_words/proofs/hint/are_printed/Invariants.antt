use Rattle.bgp_words.proofs.Prelude.{◌≡◌, length, are_all, is_printed}
use Rattle.bgp_words.proofs.hint.are_printed.Given as goal

abbrev pub invariant-text : goal.invariant-text
invariant-text l = are_all is_printed l.left ≡ are_all is_printed l.fn.text

abbrev pub decreases-text : goal.decreases-text
decreases-text l = length l.left
