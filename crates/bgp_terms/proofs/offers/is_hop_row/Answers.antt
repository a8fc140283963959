use Rattle.bgp_terms.proofs.Hops.{row_more}
use Rattle.bgp_terms.proofs.offers.is_hop_row.Goals as goal

pub families-preserved : goal.families-preserved
families-preserved c = row_more c.families.rest.now _ c.in-len6-up.len_at_least c.families.invariant
