-- The values of borrowed routes of other address families.
use Rattle.bgp_prefix.specs.Prelude.{prefixes_left}
use Rattle.bgp_attr.specs.declared.mp.MpReach.{MpReach}
use Rattle.bgp_attr.specs.declared.mp.MpReach.TheVariants as reach
use Rattle.bgp_attr.specs.declared.mp.MpUnreach.{MpUnreach}
use Rattle.bgp_attr.specs.declared.mp.MpUnreach.TheVariants as unreach
use Rattle.bgp_attr.specs.declared.mp_view.MpReachView.{MpReachView}
use Rattle.bgp_attr.specs.declared.mp_view.MpReachView.TheVariants as reach_view
use Rattle.bgp_attr.specs.declared.mp_view.MpUnreachView.{MpUnreachView}
use Rattle.bgp_attr.specs.declared.mp_view.MpUnreachView.TheVariants as unreach_view

abbrev pub reach_value : MpReachView → MpReach
reach_value (reach_view.Ip4 hop routes) = reach.Ip4 hop (prefixes_left routes)
reach_value (reach_view.Ip6 hop link routes) = reach.Ip6 hop link (prefixes_left routes)

abbrev pub unreach_value : MpUnreachView → MpUnreach
unreach_value (unreach_view.Ip4 routes) = unreach.Ip4 (prefixes_left routes)
unreach_value (unreach_view.Ip6 routes) = unreach.Ip6 (prefixes_left routes)
