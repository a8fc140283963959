use Rattle.bgp_fields.proofs.Routed.{withdrawn-routes}
use Rattle.bgp_fields.proofs.laws.the_prefix_fields_are_what_is_withdrawn.Goals as goal

pub returns : goal.returns
returns c = withdrawn-routes
