use Rattle.std.proofs.Common.{arith, rules}
use Rattle.bgp_text.proofs.Pieces.{fewer, first_stale, three}
use Rattle.bgp_text.proofs.capability_values.put_first_stale.Goals as goal

pub returns : goal.returns
returns c =
    let whole = first_stale c.args.octets.now _ _ c.in-len7-up.len_at_least c.from_be_bytes.ensures (search rules) in (
      fewer 7 c.args.octets.now (omega arith) c.in-len7-up.len_at_least,
      three _ _ _ _ _ _ _ _ _ c.in_ok-put_family.ensures c.in_ok-put_numbered.ensures c.in_ok-put_further.ensures whole,
    )
