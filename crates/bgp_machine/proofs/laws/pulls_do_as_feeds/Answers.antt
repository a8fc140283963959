use Rattle.bgp_machine.proofs.Prelude.{by_look, by_pull, by_steps, hearer, pull_is_way, runs_agree}
use Rattle.bgp_machine.proofs.Cuttings.{is_hearer, look_is_way}
use Rattle.bgp_machine.proofs.Steppings.{steps_are_way}
use Rattle.bgp_machine.proofs.laws.pulls_do_as_feeds.Goals as goal

pub returns : goal.returns
returns c = record {
  pull = runs_agree hearer is_hearer by_pull by_steps (pull_is_way hearer is_hearer) steps_are_way;
  look = runs_agree hearer is_hearer by_look by_steps look_is_way steps_are_way;
}
