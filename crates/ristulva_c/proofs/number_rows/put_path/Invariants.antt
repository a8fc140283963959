use Rattle.ristulva_c.proofs.Below.{length, joined_value, joined_left}
use Rattle.ristulva_c.proofs.NumberRows.{IsPathWriting}
use Rattle.ristulva_c.proofs.number_rows.put_path.Given as goal

abbrev pub invariant-path : goal.invariant-path
invariant-path l = IsPathWriting l.message (joined_value l.path).segments (joined_left l.left) l.segment l.from l.to l.fn.list l.list

abbrev pub decreases-path : goal.decreases-path
decreases-path l = length (joined_left l.left)
