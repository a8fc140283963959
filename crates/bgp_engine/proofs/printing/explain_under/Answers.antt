use Rattle.bgp_engine.proofs.printing.explain_under.Goals as goal

pub returns-then-only_faults : goal.returns-then-only_faults
returns-then-only_faults g c = rw c.if-only_faults.true (rw (c.new-page.ensures.context, c.new-page.ensures.families, c.of-families.ensures) at c.walk_under.ensures)

pub returns : goal.returns
returns g c = rw c.if-only_faults.false (rw (c.new-page-2.ensures.context, c.new-page-2.ensures.families, c.of-families.ensures) at c.walk_under-2.ensures)
