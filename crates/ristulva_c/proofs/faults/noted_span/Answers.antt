use Rattle.std.proofs.Common.{arith}
use Rattle.ristulva_c.proofs.NotePlaces.{far_noted}
use Rattle.ristulva_c.proofs.faults.noted_span.Goals as goal

pub returns-then-told-gt4096 : goal.returns-then-told-gt4096
returns-then-told-gt4096 c = far_noted c.args.message.now c.args.told.now c.requires (omega (arith, c.if-told-gt4096.true))
