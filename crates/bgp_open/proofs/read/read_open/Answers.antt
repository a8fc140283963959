use Rattle.bgp_open.proofs.Readings.{IsReadAs-found, IsReadAs-only}
use Rattle.bgp_open.proofs.read.read_open.Goals as goal

pub returns-clause-found : goal.returns-clause-found
returns-clause-found c = IsReadAs-found c.args.body.now c.reading.result c.requires c.reading.ensures

pub returns-clause-only : goal.returns-clause-only
returns-clause-only c = IsReadAs-only c.args.body.now c.reading.result c.reading.ensures
