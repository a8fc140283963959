use Rattle.bgp_engine.proofs.narrowing.narrow_under.Goals as goal

pub returns : goal.returns
returns g c = rw (c.new-page.ensures.context, c.new-page.ensures.families, c.of.ensures) at c.walk_under.ensures
