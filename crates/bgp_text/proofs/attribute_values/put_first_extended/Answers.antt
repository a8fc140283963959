use Rattle.std.proofs.Common.{arith}
use Rattle.bgp_text.proofs.Pieces.{fewer, first_extended, two}
use Rattle.bgp_text.proofs.attribute_values.put_first_extended.Goals as goal

pub returns : goal.returns
returns c =
    let whole = first_extended c.args.octets.now c.in-len8-up.len_at_least in
    (fewer 8 c.args.octets.now (omega arith) c.in-len8-up.len_at_least, two _ _ _ _ _ _ _ c.in_ok-put_extended.ensures c.in_ok-put_further.ensures whole)
