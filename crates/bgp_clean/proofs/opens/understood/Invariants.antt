use Rattle.bgp_clean.proofs.Prelude.{◌≡◌, ◌≤◌, ◌++◌, length, capabilities_left, row_octets, understood_with, understood_behind, seen_value}
use Rattle.bgp_clean.proofs.opens.understood.Given as goal

-- those so far and those that remain are all, and there is room for them
abbrev pub invariant-row : goal.invariant-row
invariant-row l =
    (l.row.items ++ row_octets (understood_behind (seen_value l.seen) (capabilities_left l.left)) ≡ row_octets (understood_with l.fn.offers (capabilities_left l.fn.capabilities)))
    × (length (row_octets (understood_with l.fn.offers (capabilities_left l.fn.capabilities))) ≤ 253)

abbrev pub decreases-row : goal.decreases-row
decreases-row l = length (capabilities_left l.left)
