use Rattle.bgp_session.proofs.Outcomes.{agrees}
use Rattle.bgp_session.proofs.laws.both_sides_agree.Goals as goal

pub returns : goal.returns
returns c = agrees
