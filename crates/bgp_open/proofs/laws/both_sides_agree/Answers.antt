use Rattle.bgp_open.proofs.Agreements.{both_agree}
use Rattle.bgp_open.proofs.laws.both_sides_agree.Goals as goal

pub returns : goal.returns
returns c = both_agree
