use Rattle.std.proofs.Common.{length, ap, arith}
use Rattle.ristulva_c.proofs.LeftOut.{few_caps}
use Rattle.ristulva_c.proofs.left_out.count_caps.Goals as goal

pub overflow_add-count : goal.overflow_add-count
overflow_add-count c = omega (arith, c.row.invariant, ap length c.in-Some.ensures.steps, few_caps c.args.view, c.ranges.view)
