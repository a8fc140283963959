use Rattle.bgp_engine.proofs.narrowing.narrow_within.Goals as goal

pub returns : goal.returns
returns g c = rw (c.new-page.ensures.context, c.new-page.ensures.families, c.no_paths.ensures) at c.walk_stream.ensures
