use Rattle.std.proofs.Common.{arith}
use Rattle.ristulva_c.proofs.CapabilitySteps.{begun_fits, given}
use Rattle.ristulva_c.proofs.capabilities.begun.Goals as goal

pub returns : goal.returns
returns c =
    let old = c.args.cursor.now in
    let fits = begun_fits c.args.octets.now old _ _ c.requires c.in_ok-rest.ensures in
    given c.args.octets.now old _ _ _ c.requires c.in_ok-rest.ensures (omega (arith, fits))
