use Rattle.bgp_engine.proofs.printing.explain_within.Goals as goal

pub returns-then-only_faults : goal.returns-then-only_faults
returns-then-only_faults g c = rw c.if-only_faults.true (rw (c.new-page.ensures.context, c.new-page.ensures.families, c.no_paths.ensures) at c.walk_stream.ensures)

pub returns : goal.returns
returns g c = rw c.if-only_faults.false (rw (c.new-page-2.ensures.context, c.new-page-2.ensures.families, c.no_paths-2.ensures) at c.walk_stream-2.ensures)
