-- The routes of a message, borrowed.
use Rattle.std.specs.Prelude.{◌++◌}
use Rattle.bgp_prefix.specs.Prelude.{prefixes_left}
use Rattle.bgp_update.specs.declared.routes.Routes.{Routes}
use Rattle.bgp_update.specs.declared.routes_view.RoutesView.{RoutesView}

abbrev pub all_routes : RoutesView → Routes
all_routes r = record {
  ip4 = prefixes_left r.withdrawn ++ (prefixes_left r.gone.ip4 ++ (prefixes_left r.reached.ip4 ++ prefixes_left r.nlri));
  ip6 = prefixes_left r.gone.ip6 ++ prefixes_left r.reached.ip6;
}
