use Rattle.bgp_machine.proofs.Prelude.{by_steps, hearer, runs_agree}
use Rattle.bgp_machine.proofs.Cuttings.{is_hearer}
use Rattle.bgp_machine.proofs.Steppings.{steps_are_way}
use Rattle.bgp_machine.proofs.laws.cuts_change_nothing.Goals as goal

pub returns : goal.returns
returns c = runs_agree hearer is_hearer by_steps by_steps steps_are_way steps_are_way
