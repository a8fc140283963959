-- The values of borrowed communities.
use Rattle.bgp_attr.specs.declared.communities.Communities.{Communities}
use Rattle.bgp_attr.specs.declared.communities.LargeCommunities.{LargeCommunities}
use Rattle.bgp_attr.specs.declared.communities_view.CommunitiesView.{CommunitiesView}
use Rattle.bgp_attr.specs.declared.communities_view.LargeView.{LargeView}
use Rattle.bgp_attr.specs.NumberIter.{communities_left}
use Rattle.bgp_attr.specs.LargeIter.{triples_left}

abbrev pub communities_value : CommunitiesView → Communities
communities_value c = record { partial = c.partial; values = communities_left c.values }

abbrev pub large_value : LargeView → LargeCommunities
large_value l = record { partial = l.partial; values = triples_left l.values }
