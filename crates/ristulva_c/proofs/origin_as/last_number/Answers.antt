use Rattle.bgp_attr.specs.Prelude.{as_numbers_left}
use Rattle.ristulva_c.proofs.OriginAs.{last_is}
use Rattle.ristulva_c.proofs.origin_as.last_number.Goals as goal

pub numbers-init : goal.numbers-init
numbers-init c = last_is (as_numbers_left c.args.numbers)
