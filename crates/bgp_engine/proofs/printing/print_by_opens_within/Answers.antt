use Rattle.bgp_engine.proofs.printing.print_by_opens_within.Goals as goal

pub returns-in-Lines-true : goal.returns-in-Lines-true
returns-in-Lines-true g c = rw c.in-Lines-true.is-0 (rw c.in-Lines-true.is-1 c.open_stream.ensures)

pub returns-in-Json-true : goal.returns-in-Json-true
returns-in-Json-true g c = rw c.in-Json-true.is-0 (rw c.in-Json-true.is-1 c.open_stream-in-Json-true.ensures)
