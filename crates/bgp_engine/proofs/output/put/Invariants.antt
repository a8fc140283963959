use Rattle.bgp_engine.proofs.Prelude.{length}
use Rattle.bgp_engine.proofs.Written.{HasWritten}
use Rattle.bgp_engine.proofs.output.put.Given as goal

abbrev pub invariant-text : goal.invariant-text
invariant-text g l = HasWritten (g.W.Write.contents l.fn.output) (g.W.Write.contents l.output) l.text l.rest

abbrev pub decreases-text : goal.decreases-text
decreases-text g l = length l.rest
