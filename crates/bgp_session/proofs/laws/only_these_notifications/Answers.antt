use Rattle.bgp_session.proofs.Outcomes.{reasons}
use Rattle.bgp_session.proofs.laws.only_these_notifications.Goals as goal

pub returns : goal.returns
returns c = reasons
