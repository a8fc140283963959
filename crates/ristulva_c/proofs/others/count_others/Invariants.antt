use Rattle.ristulva_c.proofs.Below.{◌≡◌, ◌+◌, length, filter, attrs_left, kept_of, is_opaque, view_marks}
use Rattle.ristulva_c.proofs.others.count_others.Given as goal

-- those so far and those that remain are all
abbrev pub invariant-kept : goal.invariant-kept
invariant-kept l = l.count + length (filter is_opaque (attrs_left l.left)) ≡ length (filter is_opaque (kept_of (view_marks l.view)))

abbrev pub decreases-kept : goal.decreases-kept
decreases-kept l = length (attrs_left l.left)
