use Rattle.ristulva_c.proofs.Below.{sym, take_all}
use Rattle.ristulva_c.proofs.hearing.longest.Goals as goal

pub returns-then-octets-le-MESSAGE_MAX-clause-front : goal.returns-then-octets-le-MESSAGE_MAX-clause-front
returns-then-octets-le-MESSAGE_MAX-clause-front c = sym (take_all 4096 c.args.octets.now c.if-octets-le-MESSAGE_MAX.true)
