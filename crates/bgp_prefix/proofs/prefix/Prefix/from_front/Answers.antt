use Rattle.bgp_prefix.proofs.PrefixLemmas.{prefix_of-valid}
use Rattle.bgp_prefix.proofs.prefix.Prefix.from_front.Goals as goal

pub invariant_of-result : goal.invariant_of-result
invariant_of-result g c =
    rw c.address-addr.ensures.value (prefix_of-valid g.row.W _ _ c.requires.allowed c.requires.held c.address-addr.ensures.octets)
