use Rattle.std.proofs.Common.{ap, ◌∙◌}
use Rattle.bgp_open.specs.Prelude.{capabilities_left, said_of}
use Rattle.bgp_terms.proofs.Offerings.{offering-all}
use Rattle.bgp_terms.proofs.offers.offers_in.Goals as goal

pub loop-capability-init : goal.loop-capability-init
loop-capability-init c = (
  ap said_of c.new-offers.ensures.kept ∙ c.peer.ensures,
  offering-all _ _ _ c.new-offers.ensures.none (ap capabilities_left c.into_iter-capability-iterator.ensures.into_iter_gives ∙ c.capabilities-capability-items.ensures),
)
