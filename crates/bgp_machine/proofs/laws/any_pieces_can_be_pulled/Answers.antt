use Rattle.bgp_machine.proofs.Prelude.{by_pull, hearer, pull_is_way, can_be_heard, can_pull}
use Rattle.bgp_machine.proofs.Cuttings.{is_hearer}
use Rattle.bgp_machine.proofs.laws.any_pieces_can_be_pulled.Goals as goal

pub returns : goal.returns
returns c = can_be_heard hearer is_hearer by_pull (pull_is_way hearer is_hearer) (can_pull hearer is_hearer)
