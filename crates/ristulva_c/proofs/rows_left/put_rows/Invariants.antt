use Rattle.std.proofs.Common.{length}
use Rattle.ristulva_c.proofs.Rows.{IsWriting}
use Rattle.ristulva_c.proofs.rows_left.put_rows.Given as goal

abbrev pub invariant-rows : goal.invariant-rows
invariant-rows g l = IsWriting (g.R.Rows.left l.fn.rows) (g.R.Rows.left l.left) l.from l.to l.fn.list l.list

abbrev pub decreases-rows : goal.decreases-rows
decreases-rows g l = length (g.R.Rows.left l.left)
