use Rattle.bgp_update.proofs.Narrowing.{update_of}
use Rattle.bgp_update.proofs.two_octets.narrow_update.Goals as goal

pub returns : goal.returns
returns c = update_of c.args.update.now c.in_ok-withdrawn.withdrawn c.in_ok-nlri.nlri c.in_ok-attrs.attrs c.in_ok-withdrawn.ensures c.in_ok-nlri.ensures c.in_ok-attrs.ensures
