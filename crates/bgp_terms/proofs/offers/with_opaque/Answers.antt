use Rattle.std.proofs.Common.{sym, ◌∙◌}
use Rattle.bgp_terms.proofs.KeptFamilies.{none_offered}
use Rattle.bgp_terms.proofs.offers.with_opaque.Goals as goal

pub returns-in-None : goal.returns-in-None
returns-in-None c = none_offered c.args.families.list c.args.families.len _ c.args.families.within (sym c.in-None.is ∙ c.opaque_family.ensures)
