use Rattle.bgp_text.proofs.Prelude.{◌≡◌, ◌+◌, ◌≤◌, ◌++◌, length, drop, decimal}
use Rattle.bgp_text.proofs.decimal.write_digits.Given as goal

abbrev pub invariant-groups : goal.invariant-groups
invariant-groups l =
    (length (decimal l.left) + 2 ≤ l.at) × (l.at ≤ l.end) × (l.at + length (decimal l.number) ≡ l.end + length (decimal l.left))
    × (decimal l.left ++ drop l.at l.octets ≡ decimal l.number ++ drop l.end l.fn.octets)

abbrev pub decreases-groups : goal.decreases-groups
decreases-groups l = l.left
