use Rattle.std.proofs.Common.{arith}
use Rattle.bgp_text.proofs.Pieces.{fewer, first_extended6, two}
use Rattle.bgp_text.proofs.attribute_values.put_first_extended6.Goals as goal

pub returns : goal.returns
returns c =
    let whole = first_extended6 c.args.octets.now c.from_be_bytes.result c.in-len20-up.len_at_least c.from_be_bytes.ensures in
    (fewer 20 c.args.octets.now (omega arith) c.in-len20-up.len_at_least, two _ _ _ _ _ _ _ c.in_ok-put_extended6.ensures c.in_ok-put_further.ensures whole)
