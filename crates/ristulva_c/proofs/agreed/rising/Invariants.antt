use Rattle.ristulva_c.proofs.Below.{◌≡◌, has_octet}
use Rattle.ristulva_c.proofs.RisingSteps.{below}
use Rattle.ristulva_c.proofs.agreed.rising.Given as goal

-- those below the octet are included
abbrev pub invariant-octets : goal.invariant-octets
invariant-octets l = l.octets.items ≡ below (has_octet l.set) l.octet
