use Rattle.bgp_guard.proofs.Lives.{a_guard_hands_on}
use Rattle.bgp_guard.proofs.laws.a_guard_hands_on_what_is_clean.Goals as goal

pub returns : goal.returns
returns c = a_guard_hands_on
