use Rattle.std.proofs.Common.{ap, ◌∙◌}
use Rattle.bgp_open.specs.Prelude.{capabilities_left, open_value}
use Rattle.bgp_open.proofs.Peers.{told}
use Rattle.bgp_open.proofs.open_view.OpenView.peer.Goals as goal

pub loop-capability-init : goal.loop-capability-init
loop-capability-init c =
    told _ _ _ _ _ (open_value c.args.self.now) c.new-peer.ensures c.as_field.ensures c.hold.ensures c.id.ensures
    (ap capabilities_left c.into_iter-capability-iterator.ensures.into_iter_gives ∙ c.capabilities-capability-items.ensures)
