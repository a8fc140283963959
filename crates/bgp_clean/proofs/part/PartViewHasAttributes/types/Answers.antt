use Rattle.bgp_clean.proofs.Prelude.{sym, ◌∙◌, chosen_update}
use Rattle.bgp_clean.proofs.PartSlots.{withdrawing-types}
use Rattle.bgp_clean.proofs.part.PartViewHasAttributes.types.Goals as goal

pub returns-else-announces : goal.returns-else-announces
returns-else-announces c = withdrawing-types (chosen_update c.args.self.now.chosen.now) c.args.self.now.part (sym c.announces.ensures ∙ c.if-announces.false)
