use Rattle.ristulva_c.proofs.Below.{◌≡◌, ◌+◌, length, capabilities_left, open_value}
use Rattle.ristulva_c.proofs.left_out.count_caps.Given as goal

-- those so far and those that remain are all
abbrev pub invariant-row : goal.invariant-row
invariant-row l = l.count + length (capabilities_left l.left) ≡ length (open_value l.fn.view).caps

abbrev pub decreases-row : goal.decreases-row
decreases-row l = length (capabilities_left l.left)
