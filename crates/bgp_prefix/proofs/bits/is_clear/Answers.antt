use Rattle.std.proofs.Common.{rules}
use Rattle.bgp_prefix.proofs.BitLemmas.{is_clear_iff}
use Rattle.bgp_prefix.proofs.bits.is_clear.Goals as goal

pub returns : goal.returns
returns g c = record {
  clear = is_clear_iff g.row.W c.args.len c.args.addr.now c.address.result c.eq.result (search rules) c.address.ensures.octets c.address.ensures.value c.eq.ensures;
  octets = c.address.ensures.octets;
}
