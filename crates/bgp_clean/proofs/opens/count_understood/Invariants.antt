use Rattle.bgp_clean.proofs.Prelude.{◌≡◌, ◌+◌, length, capabilities_left, open_value, understood, understood_behind, seen_value}
use Rattle.bgp_clean.proofs.opens.count_understood.Given as goal

-- those so far and those that remain are all
abbrev pub invariant-row : goal.invariant-row
invariant-row l = l.count + length (understood_behind (seen_value l.seen) (capabilities_left l.left)) ≡ length (understood (open_value l.view).caps)

abbrev pub decreases-row : goal.decreases-row
decreases-row l = length (capabilities_left l.left)
