-- The cursor over the routes of an UPDATE gives what its outcome says.
use Rattle.ristulva_c.proofs.Below.{◌≡◌, ℕ, ◌+◌, ◌-◌, ◌≤◌, ◌⊎◌, Bool, true, false, not, ◌&&◌, ◌||◌, cond, eqb, nat_lt, List, [], ◌∷◌, ◌++◌, length, map, take, drop, min, Option, Some, None, inl, inr, refl, sym, ap, ap₂, subst, ◌∙◌, arith, filter, find, drop_min, map-append, append-nil, length-append, length-take, filter-append, IPV4, IPV6, UNICAST, MP_REACH_NLRI, MP_UNREACH_NLRI, ◌>>=◌, AreOctets, header, Message, IsFrame, HeadFault, Kind, Context, is_some, PrefixValue, run_of, Attr, Judged, MpReach, MpUnreach, judgement, afi_of, safi_of, next_hop_length, reached_of, withdrawn_of, mp_reach_of, mp_unreach_of, PlacedTlv, Mark, marks_of, placed_tlvs, gone_ip4, gone_ip6, reached_ip4, reached_ip6, notes_of, Parts, parts_of, kept_by, kept_of, attrs_from, attrs_of, first_known, update_of, as_mp_reach, as_mp_unreach, eqb-true, Outcome, of_fault, out_of, AreOctets-take, AreOctets-back, length-body, parts-body, has_nlri, length-header}
use Rattle.bgp_prefix.proofs.LawLemmas.{row_is_run}
use Rattle.bgp_attr.specs.declared.attr.Attr.TheVariants as attr
use Rattle.bgp_attr.specs.declared.judged.Judged.TheVariants as judged
use Rattle.bgp_attr.specs.declared.mp.MpReach.TheVariants as reach
use Rattle.bgp_attr.specs.declared.mp.MpUnreach.TheVariants as unreach
use Rattle.bgp_update.specs.Notes as notes
use Rattle.bgp_attr.proofs.EachType.{kept-type}
use Rattle.bgp_update.proofs.Lists.{find-passes}
use Rattle.bgp_msg.specs.declared.message.Message.TheVariants as message
use Rattle.bgp_msg.specs.declared.outcome.Outcome.TheVariants as outcome
use Rattle.ristulva_c.specs.declared.prefixes.Prefixes.{Prefixes}
use Rattle.ristulva_c.specs.declared.span.Span.{Span}
use Rattle.ristulva_c.specs.Prelude.{attrs_in, flag_of, is_set, parts_told, Lie, first_of_type, width_of, IsCursor, prefixes_left, RouteValue, routes_to, reached_routes, unreached_routes, routes_of, is_of, AreWithdrawn, AreRoutes, AreInOrder, loses_ip6, has_ip6, carries_ip6, field_routes, routes_left, IsRouteCursor, Begins, octets_in, no_prefixes, no_routes, reach_afi, unreach_afi, value_from, prefixes_by, prefixes_at, cursor_by}
use Rattle.ristulva_c.specs.declared.route_list.RouteCursor.{RouteCursor}
use Rattle.ristulva_c.specs.steps.RouteList.{cursor_of}
use Rattle.ristulva_c.proofs.FirstPlaces.{LiesAt, found_lies, in_part}
use Rattle.ristulva_c.proofs.KeptPlaces.{slot_first, row_value, taken_of}
use Rattle.ristulva_c.proofs.Outcomes.{by_kind}
use Rattle.ristulva_c.proofs.PartPlaces.{lie}
use Rattle.ristulva_c.proofs.RouteSpans.{behind_in}
use Rattle.bgp_frame.specs.Kind.{plain as plain_types}
use Rattle.bgp_frame.specs.steps.AreTypes.{plain-are}

is_one : (b : Bool) → is_set (flag_of b) ≡ b
is_one true = refl
is_one false = refl

-- ---- nothing

none_left : (octets : List ℕ) → prefixes_left octets no_prefixes ≡ []
none_left octets = ap (λ (x : List PrefixValue × List ℕ). x.0) (row_is_run 4 [] [] refl)

none_routes : (a : Bool) (octets : List ℕ) → field_routes a octets no_prefixes ≡ []
none_routes a octets = ap (routes_to a IPV4) (none_left octets)

none_lies : (octets : List ℕ) → IsCursor octets no_prefixes
none_lies octets = record { within = record { in_order = omega arith; within = omega arith }; known = inl refl }

nothing_left : (octets : List ℕ) (loses : Bool) → routes_left octets (no_routes loses) ≡ []
nothing_left octets loses =
    ap₂ ◌++◌ (none_routes false octets) (ap₂ ◌++◌ (none_routes false octets) (ap₂ ◌++◌ (none_routes false octets) (none_routes false octets)))

plain : (octets : List ℕ) (o : Outcome) → AreRoutes o (routes_left octets (no_routes false)) → attrs_in o ≡ None → Begins octets o false (no_routes false)
plain octets o routes none =
    let lies = none_lies octets in
    record {
      lies = record { withdrawn = lies; unreached = lies; reached = lies; nlri = lies };
      routes = routes;
      announces = sym (ap (λ x. flag_of (is_some x)) none);
      loses_ip6 = refl;
    }

-- ---- the new cursor

abbrev of_kind : ℕ → List ℕ → Option PlacedTlv
of_kind k b = find (λ q. eqb q.tlv.kind k) (placed_tlvs b)

pub cursor_is : (ctx : Context) (a : Bool) (p : Parts) (w n : ℕ) (b : List ℕ) (un re : Option PlacedTlv) (gone come : Prefixes) (l : Bool) (an lo : ℕ)
    → w ≡ length p.withdrawn → n ≡ length p.nlri → b ≡ p.attributes → un ≡ of_kind MP_UNREACH_NLRI b → re ≡ of_kind MP_REACH_NLRI b
    → gone ≡ prefixes_at ctx (nat_lt 0 n) (23 + w) un → come ≡ prefixes_at ctx (nat_lt 0 n) (23 + w) re → l ≡ (not ctx.ip6 && (has_ip6 re || has_ip6 un)) → an ≡ flag_of a → lo ≡ flag_of l
    → ◌≡◌ {A = RouteCursor} (record {
      withdrawn = record { at = 21; end = 21 + w; afi = IPV4 };
      unreached = gone;
      reached = come;
      nlri = record { at = 23 + w + length b; end = 23 + w + length b + n; afi = IPV4 };
      announces = an;
      loses_ip6 = lo;
    }) (cursor_of ctx a (not ctx.ip6 && carries_ip6 (Some p)) p)
cursor_is ctx a p w n b un re gone come l an lo is_w is_n is_b is_un is_re is_gone is_come is_l is_an is_lo =
    let first_un : un ≡ of_kind MP_UNREACH_NLRI p.attributes = is_un ∙ ap (of_kind MP_UNREACH_NLRI) is_b in
    let first_re : re ≡ of_kind MP_REACH_NLRI p.attributes = is_re ∙ ap (of_kind MP_REACH_NLRI) is_b in
    let all_gone : gone ≡ prefixes_at ctx (has_nlri p) (23 + length p.withdrawn) (of_kind MP_UNREACH_NLRI p.attributes) =
    is_gone ∙ (λ i. prefixes_at ctx (nat_lt 0 (is_n i)) (23 + is_w i) (first_un i)) in
    let all_come : come ≡ prefixes_at ctx (has_nlri p) (23 + length p.withdrawn) (of_kind MP_REACH_NLRI p.attributes) =
    is_come ∙ (λ i. prefixes_at ctx (nat_lt 0 (is_n i)) (23 + is_w i) (first_re i)) in
    let all_lost : lo ≡ flag_of (not ctx.ip6 && carries_ip6 (Some p)) = is_lo ∙ ap flag_of (is_l ∙ (λ i. not ctx.ip6 && (has_ip6 (first_re i) || has_ip6 (first_un i)))) in
    λ i. record {
      withdrawn = record { at = 21; end = 21 + is_w i; afi = IPV4 };
      unreached = all_gone i;
      reached = all_come i;
      nlri = record { at = 23 + is_w i + length (is_b i); end = 23 + is_w i + length (is_b i) + is_n i; afi = IPV4 };
      announces = is_an i;
      loses_ip6 = all_lost i;
    }

-- a header with a fault has no routes
pub begins_fault : (octets : List ℕ) (fault : HeadFault) → Begins octets (of_fault fault) false (no_routes false)
begins_fault octets fault = plain octets (of_fault fault) (nothing_left octets false) refl

-- ---- a field

run_left : (octets : List ℕ) (at n : ℕ) → prefixes_left octets (record { at = at; end = at + n; afi = IPV4 }) ≡ (run_of 4 (octets_in (record { at = at; len = n }) octets)).0
run_left octets at n = ap (λ (k : ℕ). (run_of 4 (take k (drop at octets))).0) (let e : (at + n) - at ≡ n = omega arith in e)

-- ---- MP_REACH_NLRI and MP_UNREACH_NLRI

reach_known : (r : MpReach) → (reach_afi r ≡ IPV4) ⊎ (reach_afi r ≡ IPV6)
reach_known (reach.Ip4 hop routes) = inl refl
reach_known (reach.Ip6 hop link routes) = inr refl

unreach_known : (r : MpUnreach) → (unreach_afi r ≡ IPV4) ⊎ (unreach_afi r ≡ IPV6)
unreach_known (unreach.Ip4 routes) = inl refl
unreach_known (unreach.Ip6 routes) = inr refl

module _ (v : List ℕ) where
  abbrev pub ReachRuns : Bool → Type 0
  ReachRuns a = routes_to a (reach_afi (mp_reach_of v)) (run_of (width_of (reach_afi (mp_reach_of v))) (reached_of v)).0 ≡ reached_routes a (Some (mp_reach_of v))

  reach_by_tests : (a s f x : Bool) → eqb (safi_of v) UNICAST ≡ s → eqb (afi_of v) IPV4 ≡ f → eqb (afi_of v) IPV6 ≡ x → ReachRuns a
  reach_by_tests a false f x es ef ex = rw es refl
  reach_by_tests a true true x es ef ex = rw (es, ef) refl
  reach_by_tests a true false true es ef ex = rw (es, ef, ex) refl
  reach_by_tests a true false false es ef ex = rw (es, ef, ex) refl

  pub reach_run : (a : Bool) → ReachRuns a
  reach_run a = reach_by_tests a (eqb (safi_of v) UNICAST) (eqb (afi_of v) IPV4) (eqb (afi_of v) IPV6) refl refl refl

  abbrev pub UnreachRuns : Type 0
  UnreachRuns = routes_to false (unreach_afi (mp_unreach_of v)) (run_of (width_of (unreach_afi (mp_unreach_of v))) (withdrawn_of v)).0 ≡ unreached_routes (Some (mp_unreach_of v))

  unreach_by_tests : (s f x : Bool) → eqb (safi_of v) UNICAST ≡ s → eqb (afi_of v) IPV4 ≡ f → eqb (afi_of v) IPV6 ≡ x → UnreachRuns
  unreach_by_tests false f x es ef ex = rw es refl
  unreach_by_tests true true x es ef ex = rw (es, ef) refl
  unreach_by_tests true false true es ef ex = rw (es, ef, ex) refl
  unreach_by_tests true false false es ef ex = rw (es, ef, ex) refl

  pub unreach_run : UnreachRuns
  unreach_run = unreach_by_tests (eqb (safi_of v) UNICAST) (eqb (afi_of v) IPV4) (eqb (afi_of v) IPV6) refl refl refl

module _ (octets : List ℕ) (p : Parts) (lies : Lie octets p (parts_told (Some p))) (room : 23 + length p.withdrawn + length p.attributes + length p.nlri ≤ length octets) where
  abbrev field : ℕ
  field = 23 + length p.withdrawn

  -- ---- an attribute that lies in the field

  module _ (q : PlacedTlv) (at : LiesAt p.attributes q) where
    abbrev place : Span
    place = record { at = field + q.at + (length q.tlv.whole - length q.tlv.value); len = length q.tlv.value }

    -- its value
    pub value_there : octets_in place octets ≡ q.tlv.value
    value_there =
        let head : ℕ = q.at + (length q.tlv.whole - length q.tlv.value) in
        ap (λ (k : ℕ). take (length q.tlv.value) (drop k octets)) (let e : field + q.at + (length q.tlv.whole - length q.tlv.value) ≡ field + head = omega arith in e)
        ∙ in_part octets field (length p.attributes) head (length q.tlv.value) (omega (arith, at.within, at.longer))
        ∙ ap (λ (x : List ℕ). take (length q.tlv.value) (drop head x)) lies.attributes
        ∙ at.value

    from_left : (afi k : ℕ) → prefixes_left octets (value_from afi field k q) ≡ (run_of (width_of afi) (drop k q.tlv.value)).0
    from_left afi k =
        ap (λ (x : List ℕ). (run_of (width_of afi) x).0)
        (behind_in octets place (min k (length q.tlv.value)) (omega arith) ∙ ap (drop (min k (length q.tlv.value))) value_there ∙ drop_min k q.tlv.value)

    from_lies : (afi k : ℕ) → (afi ≡ IPV4) ⊎ (afi ≡ IPV6) → IsCursor octets (value_from afi field k q)
    from_lies afi k known = record {
      within = record { in_order = omega arith; within = omega (arith, room, at.within, at.longer) };
      known = known;
    }

  module _ (ctx : Context) where
    abbrev nlri : Bool
    nlri = has_nlri p

    -- the cursor at an attribute's prefixes gives these routes
    record Gives (a : Bool) (routes : List RouteValue) (c : Prefixes) : Type 0 where
      gives : field_routes a octets c ≡ routes
      cursor : IsCursor octets c

    nothing : (a : Bool) (routes : List RouteValue) → routes ≡ [] → Gives a routes no_prefixes
    nothing a routes none = record { gives = none_routes a octets ∙ sym none; cursor = none_lies octets }

    -- what the slot keeps of it
    reach_judged : (a : Bool) (q : PlacedTlv) → LiesAt p.attributes q → q.tlv.kind ≡ MP_REACH_NLRI → (j : Judged) → judgement ctx nlri q.tlv ≡ j
        → Gives a (reached_routes a (first_known (kept_by j) MP_REACH_NLRI >>= as_mp_reach)) (prefixes_by field q j)
    reach_judged a q at is (judged.Keep (attr.MpReach r)) keeps =
        let v : List ℕ = q.tlv.value in
        let row : attr.MpReach (mp_reach_of v) ≡ attr.MpReach r = row_value ctx nlri MP_REACH_NLRI q (attr.MpReach r) is keeps in
        let same : mp_reach_of v ≡ r = cc in
        record {
          gives = ap (routes_to a (reach_afi r)) (from_left q at (reach_afi r) (5 + next_hop_length v))
              ∙ ap (λ (y : MpReach). routes_to a (reach_afi y) (run_of (width_of (reach_afi y)) (reached_of v)).0) (sym same) ∙ reach_run v a ∙ ap (λ (y : MpReach). reached_routes a (Some y)) same;
          cursor = from_lies q at (reach_afi r) (5 + next_hop_length v) (reach_known r);
        }
    reach_judged a q at is (judged.Keep (attr.MpUnreach r)) keeps =
        absurd (let other : MP_UNREACH_NLRI ≡ MP_REACH_NLRI = kept-type ctx nlri q.tlv (attr.MpUnreach r) keeps ∙ is in omega (arith, other))
    reach_judged a q at is j keeps = nothing a _ refl

    unreach_judged : (q : PlacedTlv) → LiesAt p.attributes q → q.tlv.kind ≡ MP_UNREACH_NLRI → (j : Judged) → judgement ctx nlri q.tlv ≡ j
        → Gives false (unreached_routes (first_known (kept_by j) MP_UNREACH_NLRI >>= as_mp_unreach)) (prefixes_by field q j)
    unreach_judged q at is (judged.Keep (attr.MpUnreach r)) keeps =
        let v : List ℕ = q.tlv.value in
        let row : attr.MpUnreach (mp_unreach_of v) ≡ attr.MpUnreach r = row_value ctx nlri MP_UNREACH_NLRI q (attr.MpUnreach r) is keeps in
        let same : mp_unreach_of v ≡ r = cc in
        record {
          gives = ap (routes_to false (unreach_afi r)) (from_left q at (unreach_afi r) 3)
              ∙ ap (λ (y : MpUnreach). routes_to false (unreach_afi y) (run_of (width_of (unreach_afi y)) (withdrawn_of v)).0) (sym same) ∙ unreach_run v ∙ ap (λ (y : MpUnreach). unreached_routes (Some y)) same;
          cursor = from_lies q at (unreach_afi r) 3 (unreach_known r);
        }
    unreach_judged q at is (judged.Keep (attr.MpReach r)) keeps =
        absurd (let other : MP_REACH_NLRI ≡ MP_UNREACH_NLRI = kept-type ctx nlri q.tlv (attr.MpReach r) keeps ∙ is in omega (arith, other))
    unreach_judged q at is j keeps = nothing false _ refl

    module _ {A : Type 0} (as_value : Attr → Option A) (kind : ℕ) (a : Bool) (routes : Option A → List RouteValue) (none : routes None ≡ [])
        (judged_is : (q : PlacedTlv) → LiesAt p.attributes q → q.tlv.kind ≡ kind → Gives a (routes (first_known (kept_by (judgement ctx nlri q.tlv)) kind >>= as_value)) (prefixes_by field q (judgement ctx nlri q.tlv))) where
      found : (o : Option PlacedTlv) → first_of_type kind p ≡ o → Gives a (routes (taken_of ctx nlri kind o >>= as_value)) (prefixes_at ctx nlri field o)
      found None e = nothing a (routes None) none
      found (Some q) e =
          let test = λ (t : PlacedTlv). eqb t.tlv.kind kind in
          judged_is q (found_lies test p.attributes q e) (eqb-true q.tlv.kind kind (find-passes test (placed_tlvs p.attributes) q e))

    reach_found : (a : Bool) → Gives a (reached_routes a (taken_of ctx nlri MP_REACH_NLRI (first_of_type MP_REACH_NLRI p) >>= as_mp_reach)) (prefixes_at ctx nlri field (first_of_type MP_REACH_NLRI p))
    reach_found a = found as_mp_reach MP_REACH_NLRI a (reached_routes a) refl (λ q at is. reach_judged a q at is (judgement ctx nlri q.tlv) refl) (first_of_type MP_REACH_NLRI p) refl

    unreach_found : Gives false (unreached_routes (taken_of ctx nlri MP_UNREACH_NLRI (first_of_type MP_UNREACH_NLRI p) >>= as_mp_unreach)) (prefixes_at ctx nlri field (first_of_type MP_UNREACH_NLRI p))
    unreach_found = found as_mp_unreach MP_UNREACH_NLRI false unreached_routes refl (λ q at is. unreach_judged q at is (judgement ctx nlri q.tlv) refl) (first_of_type MP_UNREACH_NLRI p) refl

    -- ---- all four fields

    abbrev kept : List Attr
    kept = kept_of (marks_of ctx p)

    -- the routes of each
    pub unreached_left : (a l : Bool) → field_routes false octets (cursor_of ctx a l p).unreached ≡ unreached_routes (attrs_of kept).mp_unreach
    unfolding attrs_from
    unreached_left a l = unreach_found.gives ∙ ap (λ (o : Option Attr). unreached_routes (o >>= as_mp_unreach)) (sym (slot_first ctx nlri MP_UNREACH_NLRI p.attributes))

    pub reached_left : (a l : Bool) → field_routes a octets (cursor_of ctx a l p).reached ≡ reached_routes a (attrs_of kept).mp_reach
    unfolding attrs_from
    reached_left a l = (reach_found a).gives ∙ ap (λ (o : Option Attr). reached_routes a (o >>= as_mp_reach)) (sym (slot_first ctx nlri MP_REACH_NLRI p.attributes))

    pub withdrawn_left : (a l : Bool) → prefixes_left octets (cursor_of ctx a l p).withdrawn ≡ (run_of 4 p.withdrawn).0
    withdrawn_left a l = run_left octets 21 (length p.withdrawn) ∙ ap (λ (x : List ℕ). (run_of 4 x).0) lies.withdrawn

    pub nlri_left : (a l : Bool) → prefixes_left octets (cursor_of ctx a l p).nlri ≡ (run_of 4 p.nlri).0
    nlri_left a l = run_left octets (field + length p.attributes) (length p.nlri) ∙ ap (λ (x : List ℕ). (run_of 4 x).0) lies.nlri

    all_left : (a l : Bool) → routes_left octets (cursor_of ctx a l p) ≡ routes_of a (update_of p (marks_of ctx p))
    all_left a l =
        ap (λ (b : Bool). field_routes false octets (cursor_of ctx a l p).withdrawn ++ (field_routes false octets (cursor_of ctx a l p).unreached
        ++ (field_routes b octets (cursor_of ctx a l p).reached ++ field_routes b octets (cursor_of ctx a l p).nlri))) (is_one a)
        ∙ ap₂ ◌++◌ (ap (routes_to false IPV4) (withdrawn_left a l)) (ap₂ ◌++◌ (unreached_left a l) (ap₂ ◌++◌ (reached_left a l) (ap (routes_to a IPV4) (nlri_left a l))))

    pub all_lie : (a l : Bool) → IsRouteCursor octets (cursor_of ctx a l p)
    all_lie a l = record {
      withdrawn = record { within = record { in_order = omega arith; within = omega (arith, room) }; known = inl refl };
      unreached = unreach_found.cursor;
      reached = (reach_found a).cursor;
      nlri = record { within = record { in_order = omega arith; within = omega (arith, room) }; known = inl refl };
    }

-- ---- those that are all withdrawn

filter_same : (afi : ℕ) (a : Bool) (ps : List PrefixValue) → eqb afi afi ≡ true → filter (is_of afi) (routes_to a afi ps) ≡ routes_to a afi ps
filter_same afi a [] same = refl
filter_same afi a (q ∷ ps) same =
    ap (λ (b : Bool). cond b (record { announced = a; afi = afi; prefix = q } ∷ filter (is_of afi) (routes_to a afi ps)) (filter (is_of afi) (routes_to a afi ps))) same
    ∙ ap (λ (rs : List RouteValue). record { announced = a; afi = afi; prefix = q } ∷ rs) (filter_same afi a ps same)

filter_other : (test : RouteValue → Bool) (afi : ℕ) (a : Bool) (ps : List PrefixValue) → ((q : PrefixValue) → test (record { announced = a; afi = afi; prefix = q }) ≡ false) → filter test (routes_to a afi ps) ≡ []
filter_other test afi a [] none = refl
filter_other test afi a (q ∷ ps) none =
    ap (λ (b : Bool). cond b (record { announced = a; afi = afi; prefix = q } ∷ filter test (routes_to a afi ps)) (filter test (routes_to a afi ps))) (none q) ∙ filter_other test afi a ps none

spread : (test : RouteValue → Bool) (w x y z : List RouteValue) → filter test (w ++ (x ++ (y ++ z))) ≡ filter test w ++ (filter test x ++ (filter test y ++ filter test z))
spread test w x y z =
    filter-append test w (x ++ (y ++ z)) ∙ ap (λ (r : List RouteValue). filter test w ++ r) (filter-append test x (y ++ z))
    ∙ ap (λ (r : List RouteValue). filter test w ++ (filter test x ++ r)) (filter-append test y z)

gone4 : (u : Option MpUnreach) → filter (is_of IPV4) (unreached_routes u) ≡ routes_to false IPV4 (gone_ip4 u)
gone4 None = refl
gone4 (Some (unreach.Ip4 routes)) = filter_same IPV4 false routes refl
gone4 (Some (unreach.Ip6 routes)) = filter_other (is_of IPV4) IPV6 false routes (λ q. refl)

gone6 : (u : Option MpUnreach) → filter (is_of IPV6) (unreached_routes u) ≡ routes_to false IPV6 (gone_ip6 u)
gone6 None = refl
gone6 (Some (unreach.Ip4 routes)) = filter_other (is_of IPV6) IPV4 false routes (λ q. refl)
gone6 (Some (unreach.Ip6 routes)) = filter_same IPV6 false routes refl

come4 : (r : Option MpReach) → filter (is_of IPV4) (reached_routes false r) ≡ routes_to false IPV4 (reached_ip4 r)
come4 None = refl
come4 (Some (reach.Ip4 hop routes)) = filter_same IPV4 false routes refl
come4 (Some (reach.Ip6 hop link routes)) = filter_other (is_of IPV4) IPV6 false routes (λ q. refl)

come6 : (r : Option MpReach) → filter (is_of IPV6) (reached_routes false r) ≡ routes_to false IPV6 (reached_ip6 r)
come6 None = refl
come6 (Some (reach.Ip4 hop routes)) = filter_other (is_of IPV6) IPV4 false routes (λ q. refl)
come6 (Some (reach.Ip6 hop link routes)) = filter_same IPV6 false routes refl

abbrev neither : RouteValue → Bool
neither r = not (is_of IPV4 r || is_of IPV6 r)

gone0 : (u : Option MpUnreach) → filter neither (unreached_routes u) ≡ []
gone0 None = refl
gone0 (Some (unreach.Ip4 routes)) = filter_other neither IPV4 false routes (λ q. refl)
gone0 (Some (unreach.Ip6 routes)) = filter_other neither IPV6 false routes (λ q. refl)

come0 : (r : Option MpReach) → filter neither (reached_routes false r) ≡ []
come0 None = refl
come0 (Some (reach.Ip4 hop routes)) = filter_other neither IPV4 false routes (λ q. refl)
come0 (Some (reach.Ip6 hop link routes)) = filter_other neither IPV6 false routes (λ q. refl)

four_joined : (w x y z : List PrefixValue) → routes_to false IPV4 w ++ (routes_to false IPV4 x ++ (routes_to false IPV4 y ++ routes_to false IPV4 z)) ≡ routes_to false IPV4 (w ++ (x ++ (y ++ z)))
four_joined w x y z =
    let f : PrefixValue → RouteValue = λ (q : PrefixValue). record { announced = false; afi = IPV4; prefix = q } in
    sym (map-append f w (x ++ (y ++ z)) ∙ ap (λ (r : List RouteValue). map f w ++ r) (map-append f x (y ++ z) ∙ ap (λ (r : List RouteValue). map f x ++ r) (map-append f y z)))

two_joined : (x y : List PrefixValue) → routes_to false IPV6 x ++ routes_to false IPV6 y ≡ routes_to false IPV6 (x ++ y)
two_joined x y = let f : PrefixValue → RouteValue = λ (q : PrefixValue). record { announced = false; afi = IPV6; prefix = q } in sym (map-append f x y)

module _ (p : Parts) (ms : List Mark) where
  abbrev w4 : List PrefixValue
  w4 = (run_of 4 p.withdrawn).0

  abbrev n4 : List PrefixValue
  n4 = (run_of 4 p.nlri).0

  abbrev u : Option MpUnreach
  u = (attrs_of (kept_of ms)).mp_unreach

  abbrev r : Option MpReach
  r = (attrs_of (kept_of ms)).mp_reach

  pub all_withdrawn : AreWithdrawn (notes.routes_of p ms) (routes_of false (update_of p ms))
  all_withdrawn = record {
    update = update_of p ms;
    in_order = refl;
    ip4 = spread (is_of IPV4) (routes_to false IPV4 w4) (unreached_routes u) (reached_routes false r) (routes_to false IPV4 n4)
        ∙ ap₂ ◌++◌ (filter_same IPV4 false w4 refl) (ap₂ ◌++◌ (gone4 u) (ap₂ ◌++◌ (come4 r) (filter_same IPV4 false n4 refl)))
        ∙ four_joined w4 (gone_ip4 u) (reached_ip4 r) n4;
    ip6 = spread (is_of IPV6) (routes_to false IPV4 w4) (unreached_routes u) (reached_routes false r) (routes_to false IPV4 n4)
        ∙ ap₂ ◌++◌ (filter_other (is_of IPV6) IPV4 false w4 (λ q. refl)) (ap₂ ◌++◌ (gone6 u) (ap₂ ◌++◌ (come6 r) (filter_other (is_of IPV6) IPV4 false n4 (λ q. refl))))
        ∙ ap (λ (rs : List RouteValue). routes_to false IPV6 (gone_ip6 u) ++ rs) (append-nil (routes_to false IPV6 (reached_ip6 r)))
        ∙ two_joined (gone_ip6 u) (reached_ip6 r);
    known = spread neither (routes_to false IPV4 w4) (unreached_routes u) (reached_routes false r) (routes_to false IPV4 n4)
        ∙ ap₂ ◌++◌ (filter_other neither IPV4 false w4 (λ q. refl)) (ap₂ ◌++◌ (gone0 u) (ap₂ ◌++◌ (come0 r) (filter_other neither IPV4 false n4 (λ q. refl))));
  }

-- ---- by the verdict

module _ (ctx : Context) (octets : List ℕ) where
  abbrev BeginsFor : Option Parts → Outcome → Type 0
  BeginsFor parts o = Begins octets o (loses_ip6 ctx parts o) (cursor_by ctx parts o) × AreInOrder ctx parts o (routes_left octets (cursor_by ctx parts o))

  module _ (p : Parts) (lies : Lie octets p (parts_told (Some p))) (room : 23 + length p.withdrawn + length p.attributes + length p.nlri ≤ length octets) where
    taken : BeginsFor (Some p) (outcome.Took (message.Update (update_of p (marks_of ctx p))) (notes_of p (marks_of ctx p)))
    taken =
        let l = not ctx.ip6 && carries_ip6 (Some p) in
        (record { lies = all_lie octets p lies room ctx true l; routes = all_left octets p lies room ctx true l; announces = refl; loses_ip6 = refl }, tt)

    withdrawn : BeginsFor (Some p) (outcome.Withdraw (notes.routes_of p (marks_of ctx p)) (notes_of p (marks_of ctx p)))
    withdrawn =
        let l = not ctx.ip6 && carries_ip6 (Some p) in (
          record {
            lies = all_lie octets p lies room ctx false l;
            routes = rw (all_left octets p lies room ctx false l) (all_withdrawn p (marks_of ctx p));
            announces = refl;
            loses_ip6 = refl;
          },
          all_left octets p lies room ctx false l,
        )

  by_body : (k : Kind) (body : List ℕ) → ((p : Parts) → parts_of body ≡ Some p → Lie octets p (parts_told (Some p)) × (23 + length p.withdrawn + length p.attributes + length p.nlri ≤ length octets))
      → BeginsFor (parts_of body) (out_of ctx (record { kind = k; body = body }))
  by_body k body there =
      let no = nothing_left octets false in
      by_kind ctx body (BeginsFor (parts_of body)) (record {
        reset = λ n. (plain octets (outcome.Reset n) no refl, tt);
        open_taken = λ o. (plain octets (outcome.Took (message.Open o) []) no refl, tt);
        notification = λ n. (plain octets (outcome.Took (message.Notification n) []) no refl, tt);
        keepalive = (plain octets (outcome.Took message.Keepalive []) no refl, tt);
      })
      (λ p is. let h = there p is in rw is (taken p h.0 h.1)) (λ p is. let h = there p is in rw is (withdrawn p h.0 h.1)) k

-- the parts of a message have room in its octets
pub room_in : (octets : List ℕ) (n : ℕ) (m : Message) → AreOctets octets → IsFrame m (take n octets) → (p : Parts) → parts_of m.body ≡ Some p
    → 23 + length p.withdrawn + length p.attributes + length p.nlri ≤ length octets
room_in octets n m are frame p is =
    let octets_are : AreOctets m.body = AreOctets-back (header m.kind (19 + length m.body)) m.body (subst AreOctets frame.octets (AreOctets-take n octets are)) in
    omega (
      arith,
      ap length (parts-body m.body p octets_are is).octets ∙ length-body p.withdrawn p.attributes p.nlri,
      ap length frame.octets,
      length-append (header m.kind (19 + length m.body)) m.body,
      length-header plain_types plain-are m.kind (19 + length m.body),
      length-take n octets,
    )

pub begins : (ctx : Context) (octets : List ℕ) (n : ℕ) (m : Message) → AreOctets octets → IsFrame m (take n octets) → BeginsFor ctx octets (parts_of m.body) (out_of ctx m)
begins ctx octets n m are frame = by_body ctx octets m.kind m.body (λ p is. (lie octets n m p are frame is, room_in octets n m are frame p is))
