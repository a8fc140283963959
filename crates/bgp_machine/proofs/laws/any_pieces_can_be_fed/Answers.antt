use Rattle.bgp_machine.proofs.Prelude.{by_steps, hearer, can_be_heard}
use Rattle.bgp_machine.proofs.Cuttings.{is_hearer}
use Rattle.bgp_machine.proofs.Steppings.{steps_are_way, can_step}
use Rattle.bgp_machine.proofs.laws.any_pieces_can_be_fed.Goals as goal

pub returns : goal.returns
returns c = can_be_heard hearer is_hearer by_steps steps_are_way can_step
