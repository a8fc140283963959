use Rattle.std.proofs.Common.{refl, ap, ◌∙◌}
use Rattle.bgp_open.specs.Prelude.{said_of}
use Rattle.bgp_terms.proofs.Offerings.{offering-all}
use Rattle.bgp_terms.proofs.offers.offers_of.Goals as goal

pub loop-capability-init : goal.loop-capability-init
loop-capability-init c = (ap said_of c.new-offers.ensures.kept ∙ c.peer.ensures, offering-all _ c.args.message.now.caps c.args.message.now.caps c.new-offers.ensures.none refl)
