use Rattle.bgp_text.proofs.Prelude.{ap}
use Rattle.bgp_text.specs.Outcome.{reset_name}
use Rattle.bgp_text.proofs.ResetCodes.{update_resets}
use Rattle.bgp_text.proofs.laws.resets_are_named_for_what_they_answer.Goals as goal

pub returns-clause-updates : goal.returns-clause-updates
returns-clause-updates c ctx body n is = ap reset_name (update_resets ctx body n is)
