use Rattle.std.proofs.Common.{ap, ◌∙◌}
use Rattle.bgp_open.specs.Prelude.{Told, offering}
use Rattle.bgp_open.proofs.Peers.{offering-open}
use Rattle.bgp_open.proofs.message.Open.peer.Goals as goal

pub loop-capability-init : goal.loop-capability-init
loop-capability-init c = ap (λ (p : Told). offering p c.args.self.now.caps) c.new-peer.ensures ∙ offering-open c.args.self.now
