use Rattle.bgp_engine.proofs.printing.print_within.Goals as goal

pub returns-in-Lines-true : goal.returns-in-Lines-true
returns-in-Lines-true g c =
    rw c.in-Lines-true.is-0 (rw c.in-Lines-true.is-1 (rw (c.new-page.ensures.context, c.new-page.ensures.families, c.no_paths.ensures) at c.walk_stream.ensures))

pub returns-in-Json-true : goal.returns-in-Json-true
returns-in-Json-true g c =
    rw c.in-Json-true.is-0 (
    rw c.in-Json-true.is-1 (
    rw (c.new-page-in-Json-true.ensures.context, c.new-page-in-Json-true.ensures.families, c.no_paths-in-Json-true.ensures) at c.walk_stream-in-Json-true.ensures
    )
    )
