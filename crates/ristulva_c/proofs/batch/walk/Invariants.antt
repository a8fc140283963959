use Rattle.std.proofs.Common.{◌-◌, length}
use Rattle.ristulva_c.proofs.Batches.{IsWalk}
use Rattle.ristulva_c.proofs.batch.walk.Given as goal

abbrev pub invariant-messages : goal.invariant-messages
invariant-messages g l = IsWalk g.B.Batch.gives l.ctx l.octets l.taken l.written l.fn.list l.list

abbrev pub decreases-messages : goal.decreases-messages
decreases-messages g l = length l.octets - l.taken
