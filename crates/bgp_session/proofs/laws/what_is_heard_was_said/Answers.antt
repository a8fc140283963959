use Rattle.bgp_session.proofs.Outcomes.{fronts}
use Rattle.bgp_session.proofs.laws.what_is_heard_was_said.Goals as goal

pub returns : goal.returns
returns c = fronts
