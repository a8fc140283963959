use Rattle.bgp_engine.proofs.Prelude.{no_tally}
use Rattle.bgp_engine.proofs.Plainly.{as_plain}
use Rattle.bgp_engine.proofs.Reading.{answers_as}
use Rattle.bgp_engine.proofs.walk.walk_stream.Goals as goal

pub returns : goal.returns
returns g c = answers_as _ _ c.args.hex _ c.walk_under.result (as_plain (g.P.Page.rules c.args.page) (g.met.P.Page.plainly c.args.page) 0 no_tally) c.walk_under.ensures
