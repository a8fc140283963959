use Rattle.std.proofs.Common.{◌≡◌, ◌+◌, length}
use Rattle.ristulva_c.proofs.rows_left.count_rows.Given as goal

abbrev pub invariant-rows : goal.invariant-rows
invariant-rows g l = l.count + length (g.R.Rows.left l.left) ≡ length (g.R.Rows.left l.fn.rows)

abbrev pub decreases-rows : goal.decreases-rows
decreases-rows g l = length (g.R.Rows.left l.left)
