use Rattle.bgp_machine.proofs.Prelude.{by_steps, hearer, runs_settle}
use Rattle.bgp_machine.proofs.Cuttings.{is_hearer}
use Rattle.bgp_machine.proofs.Steppings.{steps_are_way}
use Rattle.bgp_machine.proofs.laws.cuts_do_as_octet_by_octet.Goals as goal

pub returns : goal.returns
returns c = runs_settle hearer is_hearer by_steps steps_are_way
