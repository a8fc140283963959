use Rattle.std.proofs.Common.{sym, ◌∙◌}
use Rattle.bgp_terms.proofs.Hops.{hop6_more}
use Rattle.bgp_terms.proofs.offers.has_hop6.Goals as goal

pub families-preserved : goal.families-preserved
families-preserved c = hop6_more c.families.rest.now _ c.in-len6-up.len_at_least (sym c.is_hop6.ensures ∙ c.if-is_hop6.false) c.families.invariant
