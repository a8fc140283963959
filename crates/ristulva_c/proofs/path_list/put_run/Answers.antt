use Rattle.ristulva_c.proofs.Below.{arith}
use Rattle.bgp_paths.specs.Prelude.{numbers_left}
use Rattle.ristulva_c.proofs.PathCounts.{counted_long}
use Rattle.ristulva_c.proofs.path_list.put_run.Goals as goal

pub put_rows-requires : goal.put_rows-requires
put_rows-requires c = omega (arith, c.requires, counted_long (numbers_left c.args.run) c.args.left)

pub returns-clause-to : goal.returns-clause-to
returns-clause-to c = omega (arith, c.put_rows.ensures.to, counted_long (numbers_left c.args.run) c.args.left)
