use Rattle.std.proofs.Common.{◌≡◌}
use Rattle.bgp_update.specs.Prelude.{marks_left, kept_of}
use Rattle.bgp_update.proofs.attr_iter.first_kept.Given as goal

-- what is kept of what is left is what is kept of all
abbrev pub invariant-field : goal.invariant-field
invariant-field l = kept_of (marks_left l.fn.marks) ≡ kept_of (marks_left l.marks)
