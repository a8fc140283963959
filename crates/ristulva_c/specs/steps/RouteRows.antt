-- The rows of an UPDATE's routes, field by field.
use Rattle.std.specs.Prelude.{◌+◌, ◌≤◌, ℕ, List, [], ◌++◌, map, Option, Some, None}
use Rattle.bgp_numbers.specs.declared.afi.TheConstants.{IPV4, IPV6}
use Rattle.bgp_prefix.specs.Prelude.{PrefixValue}
use Rattle.bgp_attr.specs.declared.mp.MpReach.{MpReach}
use Rattle.bgp_attr.specs.declared.mp.MpUnreach.{MpUnreach}
use Rattle.bgp_attr.specs.declared.mp.MpReach.TheVariants as reach
use Rattle.bgp_attr.specs.declared.mp.MpUnreach.TheVariants as unreach
use Rattle.bgp_update.specs.declared.update.Update.{Update}
use Rattle.bgp_update.specs.Prelude.{Parts, update_value}
use Rattle.bgp_msg.specs.declared.outcome_view.OutcomeView.{OutcomeView}
use Rattle.bgp_msg.specs.declared.outcome_view.OutcomeView.TheVariants as view
use Rattle.ristulva_c.specs.declared.facts.Paths.{Paths}
use Rattle.ristulva_c.specs.declared.judge.TheConstants.{UPDATE, WITHDRAW}
use Rattle.ristulva_c.specs.declared.prefixes.RoutePrefix.{RoutePrefix}
use Rattle.ristulva_c.specs.declared.route_rows.RouteRow.{RouteRow}
use Rattle.ristulva_c.specs.Facts.{no_address, paths_told}
use Rattle.ristulva_c.specs.RouteRows.{prefix_row, withdrawn_row, announced_row}

-- the reported offsets fit in two octets
pub record AreWithin (p : Paths) : Type 0 where
  pub as_path : p.as_path.at + p.as_path.len ≤ 4096
  pub as4_path : p.as4_path.at + p.as4_path.len ≤ 4096
  pub communities : p.communities.at + p.communities.len ≤ 4096
  pub large_communities : p.large_communities.at + p.large_communities.len ≤ 4096

abbrev pub no_prefix : RoutePrefix
no_prefix = record { afi = 0; len = 0; addr = no_address }

-- a row with another prefix
abbrev pub with_prefix : RouteRow → ℕ → PrefixValue → RouteRow
with_prefix row afi p = record row { prefix = prefix_row afi p }

abbrev pub prefix_rows : RouteRow → ℕ → List PrefixValue → List RouteRow
prefix_rows row afi prefixes = map (with_prefix row afi) prefixes

abbrev pub reached_rows : RouteRow → Option MpReach → List RouteRow
reached_rows row None = []
reached_rows row (Some (reach.Ip4 hop routes)) = prefix_rows row IPV4 routes
reached_rows row (Some (reach.Ip6 hop link routes)) = prefix_rows row IPV6 routes

abbrev pub unreached_rows : RouteRow → Option MpUnreach → List RouteRow
unreached_rows row None = []
unreached_rows row (Some (unreach.Ip4 routes)) = prefix_rows row IPV4 routes
unreached_rows row (Some (unreach.Ip6 routes)) = prefix_rows row IPV6 routes

-- the rows of all routes, by that of one that is withdrawn and that of one that isn't
abbrev pub update_rows : RouteRow → RouteRow → Update → List RouteRow
update_rows away come u =
    prefix_rows away IPV4 u.withdrawn ++ (unreached_rows away u.attrs.mp_unreach ++ (reached_rows come u.attrs.mp_reach ++ prefix_rows come IPV4 u.nlri))

-- those of a message
abbrev pub rows_seen : ℕ → Option Parts → OutcomeView → List RouteRow
rows_seen at parts (view.Update v) =
    update_rows (withdrawn_row at UPDATE no_prefix) (announced_row at UPDATE (paths_told parts (update_value v.now).attrs) no_prefix) (update_value v.now)
rows_seen at parts (view.Withdraw v) = update_rows (withdrawn_row at WITHDRAW no_prefix) (withdrawn_row at WITHDRAW no_prefix) (update_value v.now)
rows_seen at parts _ = []
