use Rattle.bgp_fields.proofs.Routed.{accepted-routes}
use Rattle.bgp_fields.proofs.laws.the_prefix_fields_are_the_routes.Goals as goal

pub returns : goal.returns
returns c = accepted-routes
