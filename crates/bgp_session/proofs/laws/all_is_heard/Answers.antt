use Rattle.bgp_session.proofs.Outcomes.{all_heard}
use Rattle.bgp_session.proofs.laws.all_is_heard.Goals as goal

pub returns : goal.returns
returns c = λ a b moves answers side can_a can_b ranges. all_heard a b moves answers can_a can_b ranges side
