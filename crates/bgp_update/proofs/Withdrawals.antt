-- The UPDATE that withdraws the routes of an UPDATE is no longer than that one.
use Rattle.bgp_wire.proofs.Std.{◌≡◌, ℕ, ◌+◌, ◌≤◌, Bool, true, false, not, cond, ltb, List, [], ◌∷◌, ◌++◌, length, Option, Some, None, refl, ap, subst, ◌∙◌, arith, filter, flat_map}
use Rattle.std.proofs.lemmas.Grind.{flat_map-append}
use Rattle.std.proofs.lemmas.List.{append-nil, length-append}
use Rattle.bgp_wire.specs.Prelude.{AreOctets}
use Rattle.bgp_open.specs.declared.context.Context.{Context}
use Rattle.bgp_prefix.specs.Prelude.{PrefixValue, spelling_of, run_of}
use Rattle.bgp_prefix.proofs.LawLemmas.{Row-rewritten}
use Rattle.bgp_attr.specs.declared.attr.Attr.{Attr}
use Rattle.bgp_attr.specs.declared.mp.MpReach.{MpReach}
use Rattle.bgp_attr.specs.declared.mp.MpUnreach.{MpUnreach}
use Rattle.bgp_attr.specs.Prelude.{link_octets, canonical, run_octets, value_octets}
use Rattle.bgp_attr.specs.declared.attr.Attr.TheVariants as attr
use Rattle.bgp_attr.specs.declared.mp.MpReach.TheVariants as reach
use Rattle.bgp_attr.specs.declared.mp.MpUnreach.TheVariants as unreach
use Rattle.bgp_attr.proofs.CanonicalLength.{length-canonical}
use Rattle.bgp_update.specs.declared.attrs.Attrs.{Attrs}
use Rattle.bgp_update.specs.declared.note.Note.{Note}
use Rattle.bgp_update.specs.declared.routes.Routes.{Routes}
use Rattle.bgp_update.specs.Prelude.{carries_routes, marks_of, gone_ip4, gone_ip6, reached_ip4, reached_ip6, routes_of, Parts, IsBody, present, slot, types_from, canonical_order, kept_of, attrs_of, first_reset, reset_of_run, reset_of, verdict_of, gone_octets, whole_unreach, withdrawal_octets, attributes_octets}
use Rattle.bgp_update.specs.declared.verdict.Verdict.TheVariants as verdict
use Rattle.bgp_update.proofs.Verdicts.{has-parts, withdrawn-of}
use Rattle.bgp_update.proofs.Bodies.{length-body}
use Rattle.bgp_update.proofs.KeptMarks.{or-parts}
use Rattle.bgp_update.proofs.SlotLemmas.{slot-at}
use Rattle.bgp_update.proofs.Taken.{run-row}
use Rattle.bgp_update.proofs.TakenSlots.{attributes-shorter}

-- where there are routes, one head precedes them
pub some_gone : (rs later : List PrefixValue) → ltb 0 (length rs) ≡ true → gone_octets (rs ++ later) ≡ whole_unreach (unreach.Ip6 (rs ++ later))
some_gone [] later e = absurd cc
some_gone (r ∷ rs) later e = refl

-- ---- all attributes have at least the octets of the two that carry routes

module _ (ctx : Context) where
  abbrev size : List Attr → ℕ
  size xs = length (flat_map (canonical ctx) xs)

  both : (xs ys : List Attr) → size (xs ++ ys) ≡ size xs + size ys
  both xs ys = ap length (flat_map-append (canonical ctx) xs ys) ∙ length-append (flat_map (canonical ctx) xs) (flat_map (canonical ctx) ys)

  two-first : (a : Attrs) (ks : List ℕ) → size (present attr.MpReach a.mp_reach) + size (present attr.MpUnreach a.mp_unreach) ≤ size (flat_map (slot a) (14 ∷ 15 ∷ ks))
  two-first a ks =
      omega (
        arith,
        both (slot a 14) (slot a 15 ++ flat_map (slot a) ks),
        both (slot a 15) (flat_map (slot a) ks),
        ap size (slot-at a 14),
        ap size (slot-at a 15),
      )

  routes-first : (a : Attrs) → size (present attr.MpReach a.mp_reach) + size (present attr.MpUnreach a.mp_unreach) ≤ length (attributes_octets ctx a)
  unfolding canonical_order
  routes-first a = two-first a (filter (λ k. not (carries_routes k)) (types_from 0 256))

-- ---- one attribute

one-or-two : (t : Bool) → (1 ≤ cond t 2 1) × (cond t 2 1 ≤ 2)
one-or-two true = (omega arith, omega arith)
one-or-two false = (omega arith, omega arith)

module _ (ctx : Context) (x : Attr) where
  at-least : 3 + length (value_octets ctx x) ≤ length (canonical ctx x)
  at-least = omega (arith, length-canonical ctx x, (one-or-two (ltb 255 (length (value_octets ctx x)))).0)

  at-most : length (canonical ctx x) ≤ 4 + length (value_octets ctx x)
  at-most = omega (arith, length-canonical ctx x, (one-or-two (ltb 255 (length (value_octets ctx x)))).1)

  alone : size ctx (x ∷ []) ≡ length (canonical ctx x)
  alone = omega (arith, length-append (canonical ctx x) [])

-- ---- runs

abbrev run : List PrefixValue → ℕ
run ps = length (run_octets ps)

runs : (ps qs : List PrefixValue) → run (ps ++ qs) ≡ run ps + run qs
runs ps qs = ap length (flat_map-append spelling_of ps qs) ∙ length-append (run_octets ps) (run_octets qs)

module _ (ctx : Context) where
  abbrev gone : List PrefixValue → ℕ
  gone ps = length (gone_octets ps)

  gone-most : (ps : List PrefixValue) → gone ps ≤ 7 + run ps
  gone-most [] = omega arith
  gone-most (p ∷ ps) = omega (arith, at-most ctx (attr.MpUnreach (unreach.Ip6 (p ∷ ps))))

  gone-alone : (ps : List PrefixValue) → gone ps ≤ length (canonical ctx (attr.MpUnreach (unreach.Ip6 ps)))
  gone-alone [] = omega arith
  gone-alone (p ∷ ps) = omega arith

  -- routes withdrawn by MP_UNREACH_NLRI
  unreach-runs : (u : Option MpUnreach) → run (gone_ip4 u) + run (gone_ip6 u) ≤ size ctx (present attr.MpUnreach u)
  unreach-runs None = omega arith
  unreach-runs (Some (unreach.Ip4 ps)) = omega (arith, at-least ctx (attr.MpUnreach (unreach.Ip4 ps)), alone ctx (attr.MpUnreach (unreach.Ip4 ps)))
  unreach-runs (Some (unreach.Ip6 ps)) = omega (arith, at-least ctx (attr.MpUnreach (unreach.Ip6 ps)), alone ctx (attr.MpUnreach (unreach.Ip6 ps)))

  unreach-gone : (u : Option MpUnreach) → run (gone_ip4 u) + gone (gone_ip6 u) ≤ size ctx (present attr.MpUnreach u)
  unreach-gone None = omega arith
  unreach-gone (Some (unreach.Ip4 ps)) = omega (arith, at-least ctx (attr.MpUnreach (unreach.Ip4 ps)), alone ctx (attr.MpUnreach (unreach.Ip4 ps)))
  unreach-gone (Some (unreach.Ip6 ps)) = omega (arith, gone-alone ps, alone ctx (attr.MpUnreach (unreach.Ip6 ps)))

  -- beside those of MP_REACH_NLRI
  reached-gone : (r : Option MpReach) (u : Option MpUnreach)
      → run (gone_ip4 u) + (run (reached_ip4 r) + gone (gone_ip6 u ++ reached_ip6 r)) ≤ size ctx (present attr.MpReach r) + size ctx (present attr.MpUnreach u)
  reached-gone None u = omega (arith, unreach-gone u, ap gone (append-nil (gone_ip6 u)))
  reached-gone (Some (reach.Ip4 hop ps)) u =
      let x : Attr = attr.MpReach (reach.Ip4 hop ps) in
      omega (arith, unreach-gone u, ap gone (append-nil (gone_ip6 u)), at-least ctx x, alone ctx x, length-append hop (0 ∷ run_octets ps))
  reached-gone (Some (reach.Ip6 hop link ps)) u =
      let x : Attr = attr.MpReach (reach.Ip6 hop link ps) in
      omega (arith, unreach-runs u, gone-most (gone_ip6 u ++ ps), runs (gone_ip6 u) ps, at-least ctx x, alone ctx x, length-append (hop ++ link_octets link) (0 ∷ run_octets ps))

-- ---- the message

module _ (ctx : Context) (p : Parts) (octets_w : AreOctets p.withdrawn) (octets_a : AreOctets p.attributes) (octets_n : AreOctets p.nlri)
    (no_reset : reset_of p (marks_of ctx p) ≡ None) where
  abbrev attrs : Attrs
  attrs = attrs_of (kept_of (marks_of ctx p))

  abbrev routes : Routes
  routes = routes_of p (marks_of ctx p)

  rewritten : (run (run_of 4 p.withdrawn).0 ≡ length p.withdrawn) × (run (run_of 4 p.nlri).0 ≡ length p.nlri)
  rewritten =
      let later = (or-parts (first_reset (marks_of ctx p)) _ no_reset).1 in
      let each = or-parts (reset_of_run p.withdrawn) (reset_of_run p.nlri) later in (
        (Row-rewritten 4 (run_of 4 p.withdrawn).0 p.withdrawn octets_w (run-row p.withdrawn each.0)).1,
        (Row-rewritten 4 (run_of 4 p.nlri).0 p.nlri octets_n (run-row p.nlri each.1)).1,
      )

  no-longer : (body : List ℕ) → IsBody p body → length (withdrawal_octets routes) ≤ length body
  no-longer body s =
      let w : List PrefixValue = (run_of 4 p.withdrawn).0 in
      let n : List PrefixValue = (run_of 4 p.nlri).0 in
      let g : List PrefixValue = gone_ip4 attrs.mp_unreach in
      let r : List PrefixValue = reached_ip4 attrs.mp_reach in
      omega (
        arith,
        rewritten.0,
        rewritten.1,
        runs w (g ++ (r ++ n)),
        runs g (r ++ n),
        runs r n,
        reached-gone ctx attrs.mp_reach attrs.mp_unreach,
        routes-first ctx attrs,
        attributes-shorter ctx p octets_a,
        length-body (run_octets routes.ip4) (gone_octets routes.ip6) [],
        ap length s.octets,
        length-body p.withdrawn p.attributes p.nlri,
      )

-- ---- the verdict

pub withdrawal-short : (ctx : Context) (body : List ℕ) (s : Routes) (notes : List Note) → AreOctets body → verdict_of ctx body ≡ verdict.Withdraw s notes → length (withdrawal_octets s) ≤ length body
withdrawal-short ctx body s notes octets e =
    let is = withdrawn-of ctx body s notes e in
    let p = has-parts body is.parts octets is.found in
    subst (λ (r : Routes). length (withdrawal_octets r) ≤ length body) is.routes_are (no-longer ctx is.parts p.withdrawn p.attributes p.nlri is.no_reset body p.is_body)
