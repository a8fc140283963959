use Rattle.bgp_engine.proofs.printing.explain_by_opens.Goals as goal

pub returns-then-only_faults : goal.returns-then-only_faults
returns-then-only_faults g c = rw c.if-only_faults.true c.open_stream.ensures

pub returns : goal.returns
returns g c = rw c.if-only_faults.false c.open_stream-2.ensures
