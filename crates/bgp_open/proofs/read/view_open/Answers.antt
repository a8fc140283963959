use Rattle.std.proofs.Common.{sym}
use Rattle.bgp_open.proofs.Readings.{fault_not_memory}
use Rattle.bgp_open.proofs.read.view_open.Goals as goal

pub returns-in-Some-clause-fault : goal.returns-in-Some-clause-fault
returns-in-Some-clause-fault c = fault_not_memory c.args.body.now c.in-Some.fault (sym c.in-Some.ensures)
