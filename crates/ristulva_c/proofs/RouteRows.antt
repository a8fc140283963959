-- The rows of an UPDATE's routes are those of the routes that it has.
use Rattle.ristulva_c.proofs.Below.{◌≡◌, ℕ, ◌+◌, ◌-◌, ◌≤◌, ◌⊎◌, inl, inr, Bool, true, false, List, [], ◌∷◌, ◌++◌, length, map, Option, Some, None, refl, sym, ap, ap₂, subst, ◌∙◌, arith, length-map, map-append, length-append, IPV4, IPV6, PrefixValue, MpReach, MpUnreach, AreOctets, parts_value, Parts, update_value, view_marks, Update, UpdateView, OutcomeView, outcome_value}
use Rattle.std.specs.Borrow.{Bor}
use Rattle.bgp_attr.specs.declared.mp.MpReach.TheVariants as reach
use Rattle.bgp_attr.specs.declared.mp.MpUnreach.TheVariants as unreach
use Rattle.bgp_msg.specs.declared.outcome_view.OutcomeView.TheVariants as view
use Rattle.ristulva_c.specs.declared.facts.Paths.{Paths}
use Rattle.ristulva_c.specs.declared.judge.TheConstants.{UPDATE, WITHDRAW}
use Rattle.ristulva_c.specs.declared.route_rows.RouteRow.{RouteRow}
use Rattle.ristulva_c.specs.Prelude.{routes_to, reached_routes, unreached_routes, routes_of, paths_told, prefix_row, withdrawn_row, announced_row, row_by, route_row, GivesRoutes, IsViewed, no_prefix, with_prefix, prefix_rows, reached_rows, unreached_rows, update_rows, rows_seen}
use Rattle.ristulva_c.proofs.FewRoutes.{HasFew, has_few, all_count}
use Rattle.ristulva_c.proofs.RouteLists.{all_withdrawn}

-- the row of a field's routes but for their prefix
abbrev field_row : ℕ → ℕ → Option Paths → RouteRow
field_row message verdict paths = row_by paths message verdict no_prefix

by_paths : (message verdict afi : ℕ) (paths : Option Paths) (p : PrefixValue) → with_prefix (field_row message verdict paths) afi p ≡ row_by paths message verdict (prefix_row afi p)
by_paths message verdict afi (Some paths) p = refl
by_paths message verdict afi None p = refl

module _ (message verdict : ℕ) (paths : Option Paths) where
  -- the row of routes that are announced, or, in a withdrawal, withdrawn
  abbrev come_row : Bool → RouteRow
  come_row true = field_row message verdict paths
  come_row false = field_row message verdict None

  row_is : (a : Bool) (afi : ℕ) (p : PrefixValue) → with_prefix (come_row a) afi p ≡ route_row message verdict paths (record { announced = a; afi = afi; prefix = p })
  row_is true afi p = by_paths message verdict afi paths p
  row_is false afi p = refl

  field_are : (a : Bool) (afi : ℕ) (ps : List PrefixValue) → prefix_rows (come_row a) afi ps ≡ map (route_row message verdict paths) (routes_to a afi ps)
  field_are a afi [] = refl
  field_are a afi (p ∷ ps) = ap₂ (λ (x : RouteRow) (rows : List RouteRow). x ∷ rows) (row_is a afi p) (field_are a afi ps)

  unreached_are : (u : Option MpUnreach) → unreached_rows (field_row message verdict None) u ≡ map (route_row message verdict paths) (unreached_routes u)
  unreached_are None = refl
  unreached_are (Some (unreach.Ip4 routes)) = field_are false IPV4 routes
  unreached_are (Some (unreach.Ip6 routes)) = field_are false IPV6 routes

  reached_are : (a : Bool) (r : Option MpReach) → reached_rows (come_row a) r ≡ map (route_row message verdict paths) (reached_routes a r)
  reached_are a None = refl
  reached_are a (Some (reach.Ip4 hop routes)) = field_are a IPV4 routes
  reached_are a (Some (reach.Ip6 hop link routes)) = field_are a IPV6 routes

  -- an UPDATE's rows are those of its routes
  pub rows_are : (a : Bool) (u : Update) → update_rows (field_row message verdict None) (come_row a) u ≡ map (route_row message verdict paths) (routes_of a u)
  rows_are a u =
      let f = route_row message verdict paths in
      let w = routes_to false IPV4 u.withdrawn in
      let x = unreached_routes u.attrs.mp_unreach in
      let y = reached_routes a u.attrs.mp_reach in
      let z = routes_to a IPV4 u.nlri in
      ap₂ ◌++◌ (field_are false IPV4 u.withdrawn) (ap₂ ◌++◌ (unreached_are u.attrs.mp_unreach) (ap₂ ◌++◌ (reached_are a u.attrs.mp_reach) (field_are a IPV4 u.nlri)))
      ∙ sym (map-append f w (x ++ (y ++ z)) ∙ ap (λ (r : List RouteRow). map f w ++ r) (map-append f x (y ++ z) ∙ ap (λ (r : List RouteRow). map f x ++ r) (map-append f y z)))

-- ---- those of a message

pub gives_rows : (at : ℕ) (parts : Option Parts) (v : OutcomeView) → GivesRoutes at parts (outcome_value v) (rows_seen at parts v)
gives_rows at parts (view.Update v) = record {
  routes = routes_of true (update_value v.now);
  are = refl;
  told = rows_are at UPDATE (Some (paths_told parts (update_value v.now).attrs)) true (update_value v.now);
}
gives_rows at parts (view.Withdraw v) = record {
  routes = routes_of false (update_value v.now);
  are = all_withdrawn (parts_value v.now.body) (view_marks v.now);
  told = rows_are at WITHDRAW None false (update_value v.now);
}
gives_rows at parts (view.Open v) = record { routes = []; are = refl; told = refl }
gives_rows at parts (view.Notification v) = record { routes = []; are = refl; told = refl }
gives_rows at parts view.Keepalive = record { routes = []; are = refl; told = refl }
gives_rows at parts (view.Reset v) = record { routes = []; are = refl; told = refl }

few_by : (most at : ℕ) (parts : Option Parts) (v : OutcomeView) → HasFew most (outcome_value v) → length (rows_seen at parts v) ≤ most
few_by most at parts (view.Update v) h =
    let u = update_value v.now in
    let paths = Some (paths_told parts u.attrs) in
    omega (arith, ap length (rows_are at UPDATE paths true u), length-map (routes_of true u) (route_row at UPDATE paths), h true)
few_by most at parts (view.Withdraw v) h =
    let u = update_value v.now in
    omega (arith, ap length (rows_are at WITHDRAW None false u), length-map (routes_of false u) (route_row at WITHDRAW None), all_count (parts_value v.now.body) (view_marks v.now), h)
few_by most at parts (view.Open v) h = omega arith
few_by most at parts (view.Notification v) h = omega arith
few_by most at parts view.Keepalive h = omega arith
few_by most at parts (view.Reset v) h = omega arith

pub few_rows : (body : List ℕ) (at : ℕ) (parts : Option Parts) (v : OutcomeView) → AreOctets body → IsViewed body (outcome_value v) → length (rows_seen at parts v) ≤ length body - 4
few_rows body at parts v are w = few_by (length body - 4) at parts v (subst (HasFew (length body - 4)) (sym w.outcome) (has_few w.ctx body are w.kind))

-- ---- their number

reached_count : (x y : RouteRow) (r : Option MpReach) → length (reached_rows x r) ≡ length (reached_rows y r)
reached_count x y None = refl
reached_count x y (Some (reach.Ip4 hop routes)) = length-map routes (with_prefix x IPV4) ∙ sym (length-map routes (with_prefix y IPV4))
reached_count x y (Some (reach.Ip6 hop link routes)) = length-map routes (with_prefix x IPV6) ∙ sym (length-map routes (with_prefix y IPV6))

unreached_count : (x y : RouteRow) (u : Option MpUnreach) → length (unreached_rows x u) ≡ length (unreached_rows y u)
unreached_count x y None = refl
unreached_count x y (Some (unreach.Ip4 routes)) = length-map routes (with_prefix x IPV4) ∙ sym (length-map routes (with_prefix y IPV4))
unreached_count x y (Some (unreach.Ip6 routes)) = length-map routes (with_prefix x IPV6) ∙ sym (length-map routes (with_prefix y IPV6))

pub update_count : (away come : RouteRow) (u : Update)
    → length (update_rows away come u) ≡ length u.withdrawn + (length (unreached_rows away u.attrs.mp_unreach) + (length (reached_rows come u.attrs.mp_reach) + length u.nlri))
update_count away come u =
    let x = unreached_rows away u.attrs.mp_unreach in
    let y = reached_rows come u.attrs.mp_reach in
    let z = prefix_rows come IPV4 u.nlri in
    omega (
      arith,
      length-append (prefix_rows away IPV4 u.withdrawn) (x ++ (y ++ z)),
      length-append x (y ++ z),
      length-append y z,
      length-map u.withdrawn (with_prefix away IPV4),
      length-map u.nlri (with_prefix come IPV4),
    )

-- whatever their other fields
same_count : (a b c d : RouteRow) (u : Update) → length (update_rows a b u) ≡ length (update_rows c d u)
same_count a b c d u = omega (arith, update_count a b u, update_count c d u, unreached_count a c u.attrs.mp_unreach, reached_count b d u.attrs.mp_reach)

pub few_update : (body : List ℕ) (v : OutcomeView) (u : Bor UpdateView) → AreOctets body → IsViewed body (outcome_value v) → (v ≡ view.Update u) ⊎ (v ≡ view.Withdraw u)
    → (away come : RouteRow) → length (update_rows away come (update_value u.now)) ≤ 4073
few_update body v u are w (inl is) away come =
    let paths = paths_told None (update_value u.now).attrs in
    omega (
      arith,
      same_count away come (withdrawn_row 0 UPDATE no_prefix) (announced_row 0 UPDATE paths no_prefix) (update_value u.now),
      few_rows body 0 None (view.Update u) are (subst (λ (x : OutcomeView). IsViewed body (outcome_value x)) is w),
      w.short,
    )
few_update body v u are w (inr is) away come =
    omega (
      arith,
      same_count away come (withdrawn_row 0 WITHDRAW no_prefix) (withdrawn_row 0 WITHDRAW no_prefix) (update_value u.now),
      few_rows body 0 None (view.Withdraw u) are (subst (λ (x : OutcomeView). IsViewed body (outcome_value x)) is w),
      w.short,
    )
