use Rattle.ristulva_c.proofs.Below.{◌≡◌, ◌+◌, length, filter, has_octet, attrs_left, kept_of, view_marks}
use Rattle.ristulva_c.specs.Prelude.{is_left_out}
use Rattle.ristulva_c.proofs.left_out.others_left_out.Given as goal

-- those so far and those that remain are all
abbrev pub invariant-kept : goal.invariant-kept
invariant-kept l = l.count + length (filter (is_left_out (has_octet l.drops)) (attrs_left l.left)) ≡ length (filter (is_left_out (has_octet l.drops)) (kept_of (view_marks l.view)))

abbrev pub decreases-kept : goal.decreases-kept
decreases-kept l = length (attrs_left l.left)
