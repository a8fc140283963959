use Rattle.bgp_open.proofs.Readings.{value_or_fault}
use Rattle.bgp_open.proofs.laws.an_open_has_one_reading.Goals as goal

pub returns : goal.returns
returns c = value_or_fault
