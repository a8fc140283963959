use Rattle.bgp_text.proofs.Prelude.{arith}
use Rattle.bgp_text.proofs.Decimals.{three_written}
use Rattle.bgp_text.proofs.decimal.write_three.Goals as goal

pub returns : goal.returns
returns c = rw c.three.ensures (three_written c.args.octets.now c.args.at _ _ _ (omega (arith, c.fits-octets)))
