use Rattle.ristulva_c.proofs.Below.{arith, has_octet}
use Rattle.ristulva_c.proofs.RisingSteps.{all_there}
use Rattle.ristulva_c.proofs.agreed.rising.Goals as goal

pub returns : goal.returns
returns c =
    all_there (has_octet c.args.set.now) c.octets.octet c.octets.octets.items c.octets.invariant (omega (arith, c.octets-test.false, c.octets.auto.octet-end))
