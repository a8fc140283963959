use Rattle.bgp_guard.proofs.Reasons.{a_guard_has_reason}
use Rattle.bgp_guard.proofs.laws.a_guard_ends_for_a_reason.Goals as goal

pub returns : goal.returns
returns c = a_guard_has_reason
