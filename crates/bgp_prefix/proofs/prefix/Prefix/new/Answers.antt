use Rattle.std.proofs.Common.{refl, rules}
use Rattle.bgp_prefix.proofs.BitLemmas.{leading_bits-whole}
use Rattle.bgp_prefix.proofs.prefix.Prefix.new.Goals as goal

pub invariant_of-result : goal.invariant_of-result
invariant_of-result g c = record {
  allowed = c.if-is_allowed.ensures.0 refl;
  wide = search rules;
  octets = c.is_clear.ensures.octets;
  zeros = leading_bits-whole c.args.addr c.args.len c.is_clear.ensures.octets (c.if-is_clear.ensures.clear.0 refl);
}
