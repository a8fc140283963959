use Rattle.std.proofs.Common.{arith}
use Rattle.bgp_text.proofs.Pieces.{fewer, first_hop, two}
use Rattle.bgp_text.proofs.capability_values.put_first_hop.Goals as goal

pub returns : goal.returns
returns c =
    let whole = first_hop c.args.octets.now _ _ c.in-len6-up.len_at_least c.from_be_bytes-afi.ensures c.from_be_bytes.ensures in
    (fewer 6 c.args.octets.now (omega arith) c.in-len6-up.len_at_least, two _ _ _ _ _ _ _ c.in_ok-put_hop.ensures c.in_ok-put_further.ensures whole)
