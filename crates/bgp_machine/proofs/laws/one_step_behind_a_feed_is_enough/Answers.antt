use Rattle.bgp_machine.proofs.Prelude.{by_one_step, by_steps}
use Rattle.bgp_machine.proofs.Steppings.{to_one, from_one, runs_as}
use Rattle.bgp_machine.proofs.laws.one_step_behind_a_feed_is_enough.Goals as goal

pub returns : goal.returns
returns c = λ x pieces actions y. (runs_as by_steps by_one_step to_one x pieces actions y, runs_as by_one_step by_steps from_one x pieces actions y)
