use Rattle.std.proofs.Common.{◌-◌, ◌*◌, get_or, refl, arith, ap, ◌∙◌}
use Rattle.std.specs.Int.Bits.{bit_and}
use Rattle.bgp_prefix.proofs.BitLemmas.{address_more, address_done}
use Rattle.bgp_prefix.proofs.MaskLemmas.{masked}
use Rattle.bgp_prefix.proofs.bits.address.Goals as goal

pub loop-i-preserved : goal.loop-i-preserved
loop-i-preserved g c =
    let octet = get_or c.args.octets.now c.loop-i.i 0 in
    address_more g.row.W c.args.len c.loop-i.i (c.args.len - 8 * c.loop-i.i) c.args.octets.now c.loop-i.addr _ c.loop-i-test.true c.requires refl c.loop-i.invariant
    (ap (bit_and octet) (c.masks-masks.ensures c.loop-i.i (omega (arith, c.loop-i-test.true, c.requires))) ∙ masked c.args.len c.loop-i.i octet (omega (arith, c.type_inv.octets c.loop-i.i)))

pub returns : goal.returns
returns g c = record {
  value = address_done g.row.W c.args.len c.loop-i.i c.args.octets.now c.loop-i.addr c.loop-i.auto.i-end c.loop-i-test.false c.loop-i.invariant;
  octets = λ i. omega (arith, c.type_inv.octets i);
}
