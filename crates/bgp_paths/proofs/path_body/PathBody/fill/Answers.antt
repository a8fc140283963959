use Rattle.bgp_wire.proofs.Std.{length, ap, arith}
use Rattle.bgp_paths.specs.Prelude.{field_numbers}
use Rattle.bgp_paths.proofs.PathBack.{with_longer}
use Rattle.bgp_paths.proofs.path_body.PathBody.fill.Goals as goal

pub returns-in-Ok-clause-longer : goal.returns-in-Ok-clause-longer
returns-in-Ok-clause-longer c le = omega (arith, ap length c.in-Ok.ensures.ok, with_longer c.args.families (field_numbers c.args.numbers.now) c.args.body.now le)
