use Rattle.bgp_words.proofs.Prelude.{◌≡◌, length, are_all, is_digit_or_space}
use Rattle.bgp_words.proofs.hint.are_digits.Given as goal

abbrev pub invariant-text : goal.invariant-text
invariant-text l = are_all is_digit_or_space l.left ≡ are_all is_digit_or_space l.fn.text

abbrev pub decreases-text : goal.decreases-text
decreases-text l = length l.left
