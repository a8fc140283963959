use Rattle.bgp_engine.proofs.Reading.{answers_as}
use Rattle.bgp_engine.proofs.Startings.{opened}
use Rattle.bgp_engine.proofs.opening.open_stream.Goals as goal
use Rattle.bgp_terms.specs.declared.refreshes.Refreshes.TheVariants as refreshes

pub returns : goal.returns
returns g c =
    answers_as _ _ c.args.hex _ c.start_stream.result.0 (opened g.P.Page.fits g.P.Page.rules g.P.Page.plan refreshes.None c.args.theirs.now c.args.page c.requires.plain) c.start_stream.ensures
