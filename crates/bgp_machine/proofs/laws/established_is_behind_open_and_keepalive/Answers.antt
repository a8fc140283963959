use Rattle.bgp_machine.proofs.Lives.{established_behind}
use Rattle.bgp_machine.proofs.laws.established_is_behind_open_and_keepalive.Goals as goal

pub returns : goal.returns
returns c = established_behind
