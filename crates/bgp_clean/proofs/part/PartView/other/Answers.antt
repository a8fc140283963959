use Rattle.bgp_clean.proofs.Prelude.{sym, ◌∙◌, chosen_update}
use Rattle.bgp_clean.proofs.PartSlots.{announcing-slot, withdrawing-slot}
use Rattle.bgp_clean.proofs.part.PartView.other.Goals as goal

pub returns-then-announces : goal.returns-then-announces
returns-then-announces c =
    c.attribute.ensures ∙ sym (announcing-slot (chosen_update c.args.self.now.chosen.now) c.args.kind c.requires.next_hop c.requires.reach c.requires.unreach c.args.self.now.part (sym c.announces.ensures ∙ c.if-announces.true))

pub returns-else-announces : goal.returns-else-announces
returns-else-announces c =
    sym (withdrawing-slot (chosen_update c.args.self.now.chosen.now) c.args.kind c.requires.next_hop c.requires.reach c.requires.unreach c.args.self.now.part (sym c.announces.ensures ∙ c.if-announces.false))
