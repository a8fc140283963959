use Rattle.bgp_machine.proofs.Prelude.{by_look, by_pull, hearer, pull_is_way, runs_settle}
use Rattle.bgp_machine.proofs.Cuttings.{is_hearer, look_is_way}
use Rattle.bgp_machine.proofs.laws.pulls_do_as_octet_by_octet.Goals as goal

pub returns : goal.returns
returns c = record {
  pull = runs_settle hearer is_hearer by_pull (pull_is_way hearer is_hearer);
  look = runs_settle hearer is_hearer by_look look_is_way;
}
