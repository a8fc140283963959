use Rattle.bgp_wire.proofs.Std.{arith}
use Rattle.bgp_update.proofs.Layouts.{third_within}
use Rattle.bgp_update.proofs.body_writing.write_body.Goals as goal

pub set_lengths-requires-clause-withdrawn : goal.set_lengths-requires-clause-withdrawn
set_lengths-requires-clause-withdrawn g c = omega (arith, c.in-Ok.ensures.ok.second, c.len-start.ensures)

pub set_lengths-requires-clause-attributes : goal.set_lengths-requires-clause-attributes
set_lengths-requires-clause-attributes g c = omega (arith, c.in-Ok.ensures.ok.third)

pub set_lengths-requires-clause-nlri : goal.set_lengths-requires-clause-nlri
set_lengths-requires-clause-nlri g c = third_within _ _ _ _ _ _ c.in-Ok.places c.in-Ok.ensures.ok
