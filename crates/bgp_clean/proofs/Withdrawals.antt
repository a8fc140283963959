-- The UPDATE that withdraws a message's routes: it can be written where the message was read, is no longer, and has routes.
use Rattle.bgp_clean.proofs.Prelude.{◌≡◌, ℕ, ◌+◌, ◌≤◌, Bool, true, false, not, cond, ltb, List, [], ◌∷◌, ◌++◌, length, Option, Some, None, refl, sym, ap}
use Rattle.bgp_clean.proofs.Prelude.{subst, ◌∙◌, arith, flat_map, list_any, AllByRecursion, option_or, both_ways, and_right, or_from}
use Rattle.bgp_clean.proofs.Prelude.{not_from_true, flat_map-append, append-nil, length-append, AreOctets, Row, Context, PrefixValue, IsValid}
use Rattle.bgp_clean.proofs.Prelude.{IsPrefix, spelling_of, run_of, Row-rewritten, Attr, MpReach, MpUnreach, link_octets, canonical, run_octets, is_too_wide}
use Rattle.bgp_clean.proofs.Prelude.{is_as4, is_empty, has_as_zero, stands_twice, Belongs, HasRanges, value_octets, IPV4, IPV6, Attrs, Note, Routes, Update}
use Rattle.bgp_clean.proofs.Prelude.{CanBeWritten, marks_of, reached_ip4, reached_ip6, gone_ip4, gone_ip6, has_routes, is_reachable, routes_of, Parts, IsBody}
use Rattle.bgp_clean.proofs.Prelude.{present, attr_list, attrs_from, kept_of, attrs_of, first_reset, reset_of_run, reset_of, verdict_of, attributes_octets}
use Rattle.bgp_clean.proofs.Prelude.{written_body, is_out_of_place, HasUpdateRanges, Verdict, has_nlri, length-body, all-append, run-row, row-some}
use Rattle.bgp_clean.proofs.Prelude.{or_parts, ltb-false, valid-accepted, none-all, gone_routes, nlri_routes, reached_routes}
use Rattle.bgp_clean.proofs.Prelude.{IsAccepted, accepted-valid, unreach_of, withdrawal, has_any, has-parts, withdrawn-of}
use Rattle.bgp_attr.proofs.CanonicalLength.{length-canonical, reach_added}
use Rattle.bgp_attr.proofs.RouteRows.{prefixes-valid}
use Rattle.bgp_update.proofs.KeptMarks.{or-parts}
use Rattle.bgp_clean.proofs.Ends.{unreach_attrs, unreach-list}
use Rattle.bgp_clean.proofs.HeldAttributes.{AreHeld, are-held, reach_attr, unreach_attr, reach-all, unreach-all, both-within}

-- an attribute that withdraws IPv6 routes, where there are some
abbrev gone_attr : List PrefixValue → List Attr
gone_attr ps = unreach_attrs (unreach_of ps)

abbrev reach_list : Option MpReach → List Attr
reach_list o = present (λ (r : MpReach). Attr.MpReach r) o

gone-none : (test : Attr → Bool) → ((r : MpUnreach) → test (Attr.MpUnreach r) ≡ false) → (ps : List PrefixValue) → list_any test (gone_attr ps) ≡ false
gone-none test none [] = refl
gone-none test none (p ∷ ps) = or_from (test (Attr.MpUnreach (MpUnreach.Ip6 (p ∷ ps)))) false (none (MpUnreach.Ip6 (p ∷ ps))) refl

-- ---- lengths

head-bounds : (t : Bool) → (1 ≤ cond t 2 1) × (cond t 2 1 ≤ 2)
head-bounds true = (omega arith, omega arith)
head-bounds false = (omega arith, omega arith)

abbrev pub run : List PrefixValue → ℕ
run ps = length (run_octets ps)

run-append : (ps qs : List PrefixValue) → run (ps ++ qs) ≡ run ps + run qs
run-append ps qs = ap length (flat_map-append spelling_of ps qs) ∙ length-append (run_octets ps) (run_octets qs)

module _ (ctx : Context) where
  abbrev pub size : List Attr → ℕ
  size xs = length (flat_map (canonical ctx) xs)

  -- a value after three octets or four
  pub size-one : (x : Attr) → (3 + length (value_octets ctx x) ≤ size (x ∷ [])) × (size (x ∷ []) ≤ 4 + length (value_octets ctx x))
  size-one x =
      let bounds = head-bounds (ltb 255 (length (value_octets ctx x))) in
      let one : size (x ∷ []) ≡ length (canonical ctx x) = ap length (append-nil (canonical ctx x)) in
      (omega (arith, bounds.0, one, length-canonical ctx x), omega (arith, bounds.1, one, length-canonical ctx x))

  size-gone : (ps : List PrefixValue) → size (gone_attr ps) ≤ 7 + run ps
  size-gone [] = omega arith
  size-gone (p ∷ ps) = let most = (size-one (Attr.MpUnreach (MpUnreach.Ip6 (p ∷ ps)))).1 in omega arith

  -- the length that it has in an attribute of its own, where there is one
  size-own : (ps : List PrefixValue) → size (gone_attr ps) ≤ size (Attr.MpUnreach (MpUnreach.Ip6 ps) ∷ [])
  size-own [] = omega arith
  size-own (p ∷ ps) = omega arith

  -- the routes of both attributes are no longer in their new fields
  module _ (u : Option MpUnreach) (r : Option MpReach) where
    abbrev Fit : Type 0
    Fit = run (gone_ip4 u) + (run (reached_ip4 r) + size (gone_attr (gone_ip6 u ++ reached_ip6 r))) ≤ size (reach_list r) + size (unreach_attrs u)

  reach4-least : (hop : List ℕ) (ps : List PrefixValue) → run ps ≤ size (Attr.MpReach (MpReach.Ip4 hop ps) ∷ [])
  reach4-least hop ps = let least = (size-one (Attr.MpReach (MpReach.Ip4 hop ps))).0 in omega (arith, reach_added IPV4 hop ps)

  reach6-least : (hop : List ℕ) (link : Option (List ℕ)) (ps : List PrefixValue) → 8 + run ps ≤ size (Attr.MpReach (MpReach.Ip6 hop link ps) ∷ [])
  reach6-least hop link ps = let least = (size-one (Attr.MpReach (MpReach.Ip6 hop link ps))).0 in omega (arith, reach_added IPV6 (hop ++ link_octets link) ps)

  unreach4-least : (ps : List PrefixValue) → run ps ≤ size (Attr.MpUnreach (MpUnreach.Ip4 ps) ∷ [])
  unreach4-least ps = let least = (size-one (Attr.MpUnreach (MpUnreach.Ip4 ps))).0 in omega arith

  unreach6-least : (ps : List PrefixValue) → 6 + run ps ≤ size (Attr.MpUnreach (MpUnreach.Ip6 ps) ∷ [])
  unreach6-least ps = let least = (size-one (Attr.MpUnreach (MpUnreach.Ip6 ps))).0 in omega arith

  own-alone : (ps : List PrefixValue) → size (gone_attr (ps ++ [])) ≤ size (Attr.MpUnreach (MpUnreach.Ip6 ps) ∷ [])
  own-alone ps = subst (λ (qs : List PrefixValue). size (gone_attr qs) ≤ size (Attr.MpUnreach (MpUnreach.Ip6 ps) ∷ [])) (sym (append-nil ps)) (size-own ps)

  routes-fit : (u : Option MpUnreach) (r : Option MpReach) → Fit u r
  routes-fit None None = omega arith
  routes-fit None (Some (MpReach.Ip4 hop ps)) = omega (arith, reach4-least hop ps)
  routes-fit None (Some (MpReach.Ip6 hop link ps)) = omega (arith, reach6-least hop link ps, size-gone ps)
  routes-fit (Some (MpUnreach.Ip4 qs)) None = omega (arith, unreach4-least qs)
  routes-fit (Some (MpUnreach.Ip4 qs)) (Some (MpReach.Ip4 hop ps)) = omega (arith, unreach4-least qs, reach4-least hop ps)
  routes-fit (Some (MpUnreach.Ip4 qs)) (Some (MpReach.Ip6 hop link ps)) = omega (arith, unreach4-least qs, reach6-least hop link ps, size-gone ps)
  routes-fit (Some (MpUnreach.Ip6 qs)) None = omega (arith, own-alone qs)
  routes-fit (Some (MpUnreach.Ip6 qs)) (Some (MpReach.Ip4 hop ps)) = omega (arith, own-alone qs, reach4-least hop ps)
  routes-fit (Some (MpUnreach.Ip6 qs)) (Some (MpReach.Ip6 hop link ps)) = omega (arith, unreach6-least qs, reach6-least hop link ps, size-gone (qs ++ ps), run-append qs ps)

  -- ---- families and ranges

  of-family6 : (ps : List PrefixValue) → ctx.ip6 ≡ true → list_any (is_out_of_place ctx) (gone_attr ps) ≡ false
  of-family6 [] used = refl
  of-family6 (p ∷ ps) used = or_from (not ctx.ip6) false (not_from_true ctx.ip6 used) refl

  in-family : (nlri : Bool) (u : Option MpUnreach) (r : Option MpReach)
      → AllByRecursion (Belongs ctx nlri) (unreach_attrs u) → AllByRecursion (Belongs ctx nlri) (reach_list r)
      → list_any (is_out_of_place ctx) (gone_attr (gone_ip6 u ++ reached_ip6 r)) ≡ false
  in-family nlri None None a b = refl
  in-family nlri None (Some (MpReach.Ip4 hop ps)) a b = refl
  in-family nlri None (Some (MpReach.Ip6 hop link ps)) a b = of-family6 ps b.0
  in-family nlri (Some (MpUnreach.Ip4 qs)) None a b = refl
  in-family nlri (Some (MpUnreach.Ip4 qs)) (Some (MpReach.Ip4 hop ps)) a b = refl
  in-family nlri (Some (MpUnreach.Ip4 qs)) (Some (MpReach.Ip6 hop link ps)) a b = of-family6 ps b.0
  in-family nlri (Some (MpUnreach.Ip6 qs)) r a b = of-family6 (qs ++ reached_ip6 r) a.0

unreach-valid : (u : Option MpUnreach) → AllByRecursion HasRanges (unreach_attrs u) → AllByRecursion (IsValid 4) (gone_ip4 u) × AllByRecursion (IsValid 16) (gone_ip6 u)
unreach-valid None all = (tt, tt)
unreach-valid (Some (MpUnreach.Ip4 ps)) all = (all.0, tt)
unreach-valid (Some (MpUnreach.Ip6 ps)) all = (tt, all.0)

reach-valid : (r : Option MpReach) → AllByRecursion HasRanges (reach_list r) → AllByRecursion (IsValid 4) (reached_ip4 r) × AllByRecursion (IsValid 16) (reached_ip6 r)
reach-valid None all = (tt, tt)
reach-valid (Some (MpReach.Ip4 hop ps)) all = ((all.0).1, tt)
reach-valid (Some (MpReach.Ip6 hop link ps)) all = (tt, (all.0).2)

gone-ranges : (ps : List PrefixValue) → AllByRecursion (IsValid 16) ps → AllByRecursion HasRanges (gone_attr ps)
gone-ranges [] valid = tt
gone-ranges (p ∷ ps) valid = (valid, tt)

-- ---- routes that can be withdrawn

module _ (ctx : Context) (r : Routes) (v4 : AllByRecursion (IsValid 4) r.ip4) (v6 : AllByRecursion (IsValid 16) r.ip6)
    (used : list_any (is_out_of_place ctx) (gone_attr r.ip6) ≡ false) where
  abbrev said : Update
  said = withdrawal r

  none-of : (test : Attr → Bool) → list_any test (gone_attr r.ip6) ≡ false → list_any test (attr_list said.attrs) ≡ false
  none-of test e = subst (λ (xs : List Attr). list_any test xs ≡ false) (sym (unreach-list (unreach_of r.ip6))) e

  accepted : IsAccepted ctx said
  unfolding attrs_from
  accepted = record {
    complete = refl;
    next_hop = refl;
    local_pref = refl;
    narrow = none-of (is_too_wide ctx) (gone-none (is_too_wide ctx) (λ r. refl) r.ip6);
    allowed = and_right ctx.as4 (list_any is_as4 (attr_list said.attrs)) (none-of is_as4 (gone-none is_as4 (λ r. refl) r.ip6));
    family = none-of (is_out_of_place ctx) used;
    some = none-of is_empty (gone-none is_empty (λ r. refl) r.ip6);
    others = refl;
    nonzero = none-of has_as_zero (gone-none has_as_zero (λ r. refl) r.ip6);
    once = none-of stands_twice (gone-none stands_twice (λ r. refl) r.ip6);
  }

  ranges : HasUpdateRanges said
  unfolding attrs_from
  ranges = record {
    withdrawn = v4;
    attributes = subst (λ (xs : List Attr). AllByRecursion HasRanges xs) (sym (unreach-list (unreach_of r.ip6))) (gone-ranges r.ip6 v6);
    others = tt;
    nlri = tt;
  }

  pub withdrawal-can : (body : List ℕ) → 4 + (run r.ip4 + size ctx (gone_attr r.ip6)) ≤ length body → CanBeWritten ctx (withdrawal r) body
  withdrawal-can body le =
      let to : length (written_body ctx said) ≡ 4 + (run r.ip4 + (length (attributes_octets ctx said.attrs) + 0)) =
      length-body (run_octets r.ip4) (attributes_octets ctx said.attrs) [] in
      let attributes : length (attributes_octets ctx said.attrs) ≡ size ctx (gone_attr r.ip6) = ap (λ (xs : List Attr). size ctx xs) (unreach-list (unreach_of r.ip6)) in
      record { valid = accepted-valid ctx said accepted; ranges = ranges; no_longer = omega (arith, to, attributes, le) }

-- ---- a message that is treated as a withdrawal

module _ (ctx : Context) (p : Parts) (octets_w : AreOctets p.withdrawn) (octets_a : AreOctets p.attributes) (octets_n : AreOctets p.nlri)
    (no_reset : reset_of p (marks_of ctx p) ≡ None) (reachable : is_reachable p (marks_of ctx p) ≡ true) where
  abbrev a : Attrs
  a = attrs_of (kept_of (marks_of ctx p))

  abbrev ws : List PrefixValue
  ws = (run_of 4 p.withdrawn).0

  abbrev ns : List PrefixValue
  ns = (run_of 4 p.nlri).0

  abbrev ip4 : List PrefixValue
  ip4 = ws ++ (gone_ip4 a.mp_unreach ++ (reached_ip4 a.mp_reach ++ ns))

  abbrev ip6 : List PrefixValue
  ip6 = gone_ip6 a.mp_unreach ++ reached_ip6 a.mp_reach

  abbrev routes : Routes
  routes = routes_of p (marks_of ctx p)

  held : AreHeld ctx (has_nlri p) a (length p.attributes)
  held = are-held ctx p octets_a

  runs : (reset_of_run p.withdrawn ≡ None) × (reset_of_run p.nlri ≡ None)
  runs =
      let later = or-parts (first_reset (marks_of ctx p)) (option_or (reset_of_run p.withdrawn) (reset_of_run p.nlri)) no_reset in
      or-parts (reset_of_run p.withdrawn) (reset_of_run p.nlri) later.1

  row-w : Row (IsPrefix 4) ws p.withdrawn
  row-w = run-row p.withdrawn runs.0

  row-n : Row (IsPrefix 4) ns p.nlri
  row-n = run-row p.nlri runs.1

  family : list_any (is_out_of_place ctx) (gone_attr ip6) ≡ false
  family =
      in-family ctx (has_nlri p) a.mp_unreach a.mp_reach
      (unreach-all a (Belongs ctx (has_nlri p)) held.in_place) (reach-all a (Belongs ctx (has_nlri p)) held.in_place)

  valid4 : AllByRecursion (IsValid 4) ip4
  valid4 =
      let u = unreach-valid a.mp_unreach (unreach-all a HasRanges held.ranges) in
      let r = reach-valid a.mp_reach (reach-all a HasRanges held.ranges) in
      let w = prefixes-valid 4 ws p.withdrawn octets_w row-w in
      let n = prefixes-valid 4 ns p.nlri octets_n row-n in
      all-append (IsValid 4) ws (gone_ip4 a.mp_unreach ++ (reached_ip4 a.mp_reach ++ ns)) w
      (all-append (IsValid 4) (gone_ip4 a.mp_unreach) (reached_ip4 a.mp_reach ++ ns) u.0 (all-append (IsValid 4) (reached_ip4 a.mp_reach) ns r.0 n))

  valid6 : AllByRecursion (IsValid 16) ip6
  valid6 =
      let u = unreach-valid a.mp_unreach (unreach-all a HasRanges held.ranges) in
      let r = reach-valid a.mp_reach (reach-all a HasRanges held.ranges) in
      all-append (IsValid 16) (gone_ip6 a.mp_unreach) (reached_ip6 a.mp_reach) u.1 r.1

  fits : (body : List ℕ) → IsBody p body → 4 + (run ip4 + size ctx (gone_attr ip6)) ≤ length body
  fits body s =
      let w : run ws ≡ length p.withdrawn = (Row-rewritten 4 ws p.withdrawn octets_w row-w).1 in
      let n : run ns ≡ length p.nlri = (Row-rewritten 4 ns p.nlri octets_n row-n).1 in
      let from : length body ≡ 4 + (length p.withdrawn + (length p.attributes + length p.nlri)) = ap length s.octets ∙ length-body p.withdrawn p.attributes p.nlri in
      let first = run-append ws (gone_ip4 a.mp_unreach ++ (reached_ip4 a.mp_reach ++ ns)) in
      let second = run-append (gone_ip4 a.mp_unreach) (reached_ip4 a.mp_reach ++ ns) in
      let third = run-append (reached_ip4 a.mp_reach) ns in
      let within : size ctx (reach_attr a) + size ctx (unreach_attr a) ≤ size ctx (attr_list a) = both-within a (canonical ctx) in
      let field : size ctx (attr_list a) ≤ length p.attributes = held.shorter in
      let routes_fit = routes-fit ctx a.mp_unreach a.mp_reach in
      omega (arith, from, w, n, first, second, third, within, field, routes_fit)

  -- ---- it has routes

  silent : has_any routes ≡ false → is_reachable p (marks_of ctx p) ≡ false
  silent e =
      let both = or_parts (ltb 0 (length ip4)) (ltb 0 (length ip6)) e in
      let none4 : length ip4 ≤ 0 = ltb-false 0 (length ip4) both.0 in
      let none6 : length ip6 ≤ 0 = ltb-false 0 (length ip6) both.1 in
      let first = length-append ws (gone_ip4 a.mp_unreach ++ (reached_ip4 a.mp_reach ++ ns)) in
      let second = length-append (gone_ip4 a.mp_unreach) (reached_ip4 a.mp_reach ++ ns) in
      let third = length-append (reached_ip4 a.mp_reach) ns in
      let fourth = length-append (gone_ip6 a.mp_unreach) (reached_ip6 a.mp_reach) in
      let no_nlri : length ns ≡ 0 = omega (arith, none4, first, second, third) in
      let none_reached4 : length (reached_ip4 a.mp_reach) ≡ 0 = omega (arith, none4, first, second, third) in
      let none_reached6 : length (reached_ip6 a.mp_reach) ≡ 0 = omega (arith, none6, fourth) in
      or_from (has_nlri p) (has_routes a.mp_reach) (sym (row-some ns p.nlri row-n) ∙ ap (ltb 0) no_nlri)
      (or_from (ltb 0 (length (reached_ip4 a.mp_reach))) (ltb 0 (length (reached_ip6 a.mp_reach))) (ap (ltb 0) none_reached4) (ap (ltb 0) none_reached6))

  has-by : (t : Bool) → has_any routes ≡ t → has_any routes ≡ true
  has-by true e = e
  has-by false e = absurd (both_ways (is_reachable p (marks_of ctx p)) (silent e) reachable)

  abbrev IsWithdrawal : Routes → List ℕ → Type 0
  IsWithdrawal r body = CanBeWritten ctx (withdrawal r) body × (has_any r ≡ true)

  is-withdrawal : (body : List ℕ) → IsBody p body → IsWithdrawal routes body
  is-withdrawal body s = (withdrawal-can ctx routes valid4 valid6 family body (fits body s), has-by (has_any routes) refl)

pub withdrawal-written : (ctx : Context) (body : List ℕ) → AreOctets body → (routes : Routes) (notes : List Note) → verdict_of ctx body ≡ Verdict.Withdraw routes notes
    → CanBeWritten ctx (withdrawal routes) body × (has_any routes ≡ true)
withdrawal-written ctx body octets routes notes e =
    let is = withdrawn-of ctx body routes notes e in
    let p = has-parts body is.parts octets is.found in
    subst (λ (r : Routes). CanBeWritten ctx (withdrawal r) body × (has_any r ≡ true)) is.routes_are
    (is-withdrawal ctx is.parts p.withdrawn p.attributes p.nlri is.no_reset is.reachable body p.is_body)

-- ---- the routes of an UPDATE that can be written can be withdrawn, some at a time

gone-family : (ctx : Context) (o : Option MpUnreach) → AllByRecursion (λ x. is_out_of_place ctx x ≡ false) (unreach_attrs o) → list_any (is_out_of_place ctx) (gone_attr (gone_ip6 o)) ≡ false
gone-family ctx None all = refl
gone-family ctx (Some (MpUnreach.Ip4 ps)) all = refl
gone-family ctx (Some (MpUnreach.Ip6 [])) all = refl
gone-family ctx (Some (MpUnreach.Ip6 (p ∷ ps))) all = or_from (not ctx.ip6) false all.0 refl

reached-family : (ctx : Context) (o : Option MpReach) → AllByRecursion (λ x. is_out_of_place ctx x ≡ false) (reach_list o) → list_any (is_out_of_place ctx) (gone_attr (reached_ip6 o)) ≡ false
reached-family ctx None all = refl
reached-family ctx (Some (MpReach.Ip4 hop ps)) all = refl
reached-family ctx (Some (MpReach.Ip6 hop link [])) all = refl
reached-family ctx (Some (MpReach.Ip6 hop link (p ∷ ps))) all = or_from (not ctx.ip6) false all.0 refl

gone-fit : (ctx : Context) (o : Option MpUnreach) → run (gone_ip4 o) + size ctx (gone_attr (gone_ip6 o)) ≤ size ctx (unreach_attrs o)
gone-fit ctx None = omega arith
gone-fit ctx (Some (MpUnreach.Ip4 ps)) = omega (arith, unreach4-least ctx ps)
gone-fit ctx (Some (MpUnreach.Ip6 ps)) = omega (arith, size-own ctx ps)

reached-fit : (ctx : Context) (o : Option MpReach) → run (reached_ip4 o) + size ctx (gone_attr (reached_ip6 o)) ≤ size ctx (reach_list o)
reached-fit ctx None = omega arith
reached-fit ctx (Some (MpReach.Ip4 hop ps)) = omega (arith, reach4-least ctx hop ps)
reached-fit ctx (Some (MpReach.Ip6 hop link ps)) = omega (arith, reach6-least ctx hop link ps, size-gone ctx ps)

module _ (ctx : Context) (u : Update) (body : List ℕ) (can : CanBeWritten ctx u body) where
  in-place : AllByRecursion (λ x. is_out_of_place ctx x ≡ false) (attr_list u.attrs)
  in-place = none-all (is_out_of_place ctx) (attr_list u.attrs) (valid-accepted ctx u can.valid).family

  whole : 4 + (run u.withdrawn + (size ctx (attr_list u.attrs) + run u.nlri)) ≤ length body
  whole = omega (arith, can.no_longer, length-body (run_octets u.withdrawn) (attributes_octets ctx u.attrs) (run_octets u.nlri))

  within-both : size ctx (reach_attr u.attrs) + size ctx (unreach_attr u.attrs) ≤ size ctx (attr_list u.attrs)
  within-both = both-within u.attrs (canonical ctx)

  pub gone-can : CanBeWritten ctx (withdrawal (gone_routes u)) body
  gone-can =
      let valid = unreach-valid u.attrs.mp_unreach (unreach-all u.attrs HasRanges can.ranges.attributes) in
      withdrawal-can ctx (gone_routes u) (all-append (IsValid 4) u.withdrawn (gone_ip4 u.attrs.mp_unreach) can.ranges.withdrawn valid.0) valid.1
      (gone-family ctx u.attrs.mp_unreach (unreach-all u.attrs (λ x. is_out_of_place ctx x ≡ false) in-place)) body
      (omega (arith, whole, within-both, gone-fit ctx u.attrs.mp_unreach, run-append u.withdrawn (gone_ip4 u.attrs.mp_unreach)))

  pub nlri-can : CanBeWritten ctx (withdrawal (nlri_routes u)) body
  nlri-can = withdrawal-can ctx (nlri_routes u) can.ranges.nlri tt refl body (omega (arith, whole))

  pub reached-can : CanBeWritten ctx (withdrawal (reached_routes u)) body
  reached-can =
      let valid = reach-valid u.attrs.mp_reach (reach-all u.attrs HasRanges can.ranges.attributes) in
      withdrawal-can ctx (reached_routes u) valid.0 valid.1
      (reached-family ctx u.attrs.mp_reach (reach-all u.attrs (λ x. is_out_of_place ctx x ≡ false) in-place)) body
      (omega (arith, whole, within-both, reached-fit ctx u.attrs.mp_reach))
