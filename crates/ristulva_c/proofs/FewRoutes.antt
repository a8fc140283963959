-- A message has no more routes than octets after its header and its two lengths.
use Rattle.ristulva_c.proofs.Below.{◌≡◌, ℕ, ◌+◌, ◌-◌, ◌≤◌, Bool, true, false, eqb, List, ◌++◌, length, Option, Some, None, refl, sym, ap, ◌∙◌, arith, cond, [], ◌∷◌, length-map, find, eqb-true, length-append, length-drop, IPV4, IPV6, MP_REACH_NLRI, MP_UNREACH_NLRI, AreOctets, Row, Kind, Context, PrefixValue, run_of, IsPrefix, one_prefix, MpReach, MpUnreach, next_hop_length, reached_of, withdrawn_of, mp_reach_of, mp_unreach_of, PlacedTlv, TlvValue, IsTlv, one_tlv, tlvs_of, placed_from, Mark, marks_of, gone_ip4, gone_ip6, reached_ip4, reached_ip6, Parts, parts_of, kept_of, attrs_of, update_of, placed_tlvs, Attrs, Outcome, out_of, not_more, Splits-pieces, IsTlv-reads, length-body, parts-body, IsPrefix-reads}
use Rattle.bgp_attr.specs.declared.mp.MpReach.TheVariants as reach
use Rattle.bgp_attr.specs.declared.mp.MpUnreach.TheVariants as unreach
use Rattle.bgp_update.specs.Notes as notes
use Rattle.bgp_msg.specs.declared.message.Message.TheVariants as message
use Rattle.bgp_msg.specs.declared.outcome.Outcome.TheVariants as outcome
use Rattle.ristulva_c.specs.Prelude.{width_of, first_of_type, reach_afi, unreach_afi, RouteValue, routes_to, reached_routes, unreached_routes, routes_of}
use Rattle.ristulva_c.proofs.FirstPlaces.{found_lies}
use Rattle.ristulva_c.proofs.KeptPlaces.{reach_first, unreach_first}
use Rattle.ristulva_c.proofs.Outcomes.{by_kind}
use Rattle.ristulva_c.proofs.RouteLists.{reach_run, unreach_run}

pub few_prefixes : (width : ℕ) (b : List ℕ) → length (run_of width b).0 ≤ length b
few_prefixes width b = not_more PrefixValue (IsPrefix width) (one_prefix width) (IsPrefix-reads width) b

-- ---- attributes of two types

-- all octets of attributes
abbrev whole_of : List PlacedTlv → ℕ
whole_of [] = 0
whole_of (q ∷ qs) = length q.tlv.whole + whole_of qs

-- those of one that is found
abbrev found_of : Option PlacedTlv → ℕ
found_of None = 0
found_of (Some q) = length q.tlv.whole

found_by : (q : PlacedTlv) (qs : List PlacedTlv) (o : Option PlacedTlv) (b : Bool) → found_of o ≤ whole_of qs → found_of (cond b (Some q) o) ≤ whole_of (q ∷ qs)
found_by q qs o true le = omega arith
found_by q qs o false le = omega (arith, le)

found_in : (test : PlacedTlv → Bool) (qs : List PlacedTlv) → found_of (find test qs) ≤ whole_of qs
found_in test [] = omega arith
found_in test (q ∷ qs) = found_by q qs (find test qs) (test q) (found_in test qs)

both_by : (q : PlacedTlv) (qs : List PlacedTlv) (o u : Option PlacedTlv) (a b : Bool) → (a ≡ true → b ≡ true → ⊥) → found_of o ≤ whole_of qs → found_of u ≤ whole_of qs → found_of o + found_of u ≤ whole_of qs
    → found_of (cond a (Some q) o) + found_of (cond b (Some q) u) ≤ whole_of (q ∷ qs)
both_by q qs o u true true apart one two both = absurd (apart refl refl)
both_by q qs o u true false apart one two both = omega (arith, two)
both_by q qs o u false true apart one two both = omega (arith, one)
both_by q qs o u false false apart one two both = omega (arith, both)

-- what two tests that exclude each other find
both_found : (test other : PlacedTlv → Bool) → ((q : PlacedTlv) → test q ≡ true → other q ≡ true → ⊥) → (qs : List PlacedTlv) → found_of (find test qs) + found_of (find other qs) ≤ whole_of qs
both_found test other apart [] = omega arith
both_found test other apart (q ∷ qs) =
    both_by q qs (find test qs) (find other qs) (test q) (other q) (apart q) (found_in test qs) (found_in other qs) (both_found test other apart qs)

whole_row : (ts : List TlvValue) (row : List ℕ) (at : ℕ) → Row IsTlv ts row → whole_of (placed_from at ts) ≤ length row
whole_row [] row at spelled = omega arith
whole_row (t ∷ ts) row at spelled =
    omega (arith, ap length spelled.2, length-append spelled.0 spelled.1, ap length spelled.3.whole, whole_row ts spelled.1 (at + length t.whole) spelled.4)

-- they are no longer than the field
two_found : (test other : PlacedTlv → Bool) → ((q : PlacedTlv) → test q ≡ true → other q ≡ true → ⊥) → (field : List ℕ)
    → found_of (find test (placed_tlvs field)) + found_of (find other (placed_tlvs field)) ≤ length field
two_found test other apart field =
    let s = Splits-pieces TlvValue IsTlv one_tlv IsTlv-reads field in
    omega (
      arith,
      both_found test other apart (placed_tlvs field),
      whole_row (tlvs_of field).0 s.row 0 s.spelled,
      ap length s.whole,
      length-append s.row (tlvs_of field).1,
    )

-- ---- what an attribute gives

abbrev as_route : Bool → ℕ → PrefixValue → RouteValue
as_route announced afi p = record { announced = announced; afi = afi; prefix = p }

few_reach : (v : List ℕ) (a : Bool) → length (reached_routes a (Some (mp_reach_of v))) ≤ length v
few_reach v a =
    let afi = reach_afi (mp_reach_of v) in
    let run = run_of (width_of afi) (reached_of v) in
    omega (arith, ap length (reach_run v a), length-map run.0 (as_route a afi), few_prefixes (width_of afi) (reached_of v), length-drop (5 + next_hop_length v) v)

few_unreach : (v : List ℕ) → length (unreached_routes (Some (mp_unreach_of v))) ≤ length v
few_unreach v =
    let afi = unreach_afi (mp_unreach_of v) in
    let run = run_of (width_of afi) (withdrawn_of v) in
    omega (arith, ap length (unreach_run v), length-map run.0 (as_route false afi), few_prefixes (width_of afi) (withdrawn_of v), length-drop 3 v)

module _ (ctx : Context) (p : Parts) where
  abbrev kept : Attrs
  kept = attrs_of (kept_of (marks_of ctx p))

  abbrev is_reach : PlacedTlv → Bool
  is_reach t = eqb t.tlv.kind MP_REACH_NLRI

  abbrev is_unreach : PlacedTlv → Bool
  is_unreach t = eqb t.tlv.kind MP_UNREACH_NLRI

  reach_found : (a : Bool) (o : Option MpReach) → kept.mp_reach ≡ o → length (reached_routes a o) ≤ found_of (first_of_type MP_REACH_NLRI p)
  reach_found a None is = omega arith
  reach_found a (Some r) is =
      let f = reach_first ctx p r is in
      omega (
        arith,
        ap (λ (x : MpReach). length (reached_routes a (Some x))) f.holds,
        few_reach f.place.tlv.value a,
        (found_lies is_reach p.attributes f.place f.first).longer,
        ap found_of f.first,
      )

  unreach_found : (o : Option MpUnreach) → kept.mp_unreach ≡ o → length (unreached_routes o) ≤ found_of (first_of_type MP_UNREACH_NLRI p)
  unreach_found None is = omega arith
  unreach_found (Some r) is =
      let f = unreach_first ctx p r is in
      omega (
        arith,
        ap (λ (x : MpUnreach). length (unreached_routes (Some x))) f.holds,
        few_unreach f.place.tlv.value,
        (found_lies is_unreach p.attributes f.place f.first).longer,
        ap found_of f.first,
      )

  apart : (q : PlacedTlv) → is_reach q ≡ true → is_unreach q ≡ true → ⊥
  apart q r u = let e : MP_REACH_NLRI ≡ MP_UNREACH_NLRI = sym (eqb-true q.tlv.kind MP_REACH_NLRI r) ∙ eqb-true q.tlv.kind MP_UNREACH_NLRI u in absurd (omega (arith, e))

  -- ---- all routes of an UPDATE

  pub few_routes : (a : Bool) → length (routes_of a (update_of p (marks_of ctx p))) ≤ length p.withdrawn + length p.attributes + length p.nlri
  few_routes a =
      let w = routes_to false IPV4 (run_of 4 p.withdrawn).0 in
      let u = unreached_routes kept.mp_unreach in
      let r = reached_routes a kept.mp_reach in
      let n = routes_to a IPV4 (run_of 4 p.nlri).0 in
      omega (
        arith,
        length-append w (u ++ (r ++ n)),
        length-append u (r ++ n),
        length-append r n,
        length-map (run_of 4 p.withdrawn).0 (as_route false IPV4),
        length-map (run_of 4 p.nlri).0 (as_route a IPV4),
        few_prefixes 4 p.withdrawn,
        few_prefixes 4 p.nlri,
        reach_found a kept.mp_reach refl,
        unreach_found kept.mp_unreach refl,
        two_found is_reach is_unreach apart p.attributes,
      )

-- ---- those that are all withdrawn

gone_count : (u : Option MpUnreach) → length (unreached_routes u) ≡ length (gone_ip4 u) + length (gone_ip6 u)
gone_count None = refl
gone_count (Some (unreach.Ip4 routes)) = omega (arith, length-map routes (as_route false IPV4))
gone_count (Some (unreach.Ip6 routes)) = omega (arith, length-map routes (as_route false IPV6))

come_count : (r : Option MpReach) → length (reached_routes false r) ≡ length (reached_ip4 r) + length (reached_ip6 r)
come_count None = refl
come_count (Some (reach.Ip4 hop routes)) = omega (arith, length-map routes (as_route false IPV4))
come_count (Some (reach.Ip6 hop link routes)) = omega (arith, length-map routes (as_route false IPV6))

-- the counts by family add up to the same
pub all_count : (p : Parts) (ms : List Mark) → length (routes_of false (update_of p ms)) ≡ length (notes.routes_of p ms).ip4 + length (notes.routes_of p ms).ip6
all_count p ms =
    let w4 = (run_of 4 p.withdrawn).0 in
    let n4 = (run_of 4 p.nlri).0 in
    let um = (attrs_of (kept_of ms)).mp_unreach in
    let rm = (attrs_of (kept_of ms)).mp_reach in
    let w = routes_to false IPV4 w4 in
    let u = unreached_routes um in
    let r = reached_routes false rm in
    let n = routes_to false IPV4 n4 in
    omega (
      arith,
      length-append w (u ++ (r ++ n)),
      length-append u (r ++ n),
      length-append r n,
      length-map w4 (as_route false IPV4),
      length-map n4 (as_route false IPV4),
      gone_count um,
      come_count rm,
      length-append w4 (gone_ip4 um ++ (reached_ip4 rm ++ n4)),
      length-append (gone_ip4 um) (reached_ip4 rm ++ n4),
      length-append (reached_ip4 rm) n4,
      length-append (gone_ip6 um) (reached_ip6 rm),
    )

-- ---- by the outcome

-- a message has at most this many routes
abbrev pub HasFew : ℕ → Outcome → Type 0
HasFew most (outcome.Took (message.Update u) notes) = (a : Bool) → length (routes_of a u) ≤ most
HasFew most (outcome.Took (message.Open o) notes) = Unit {0}
HasFew most (outcome.Took (message.Notification n) notes) = Unit {0}
HasFew most (outcome.Took message.Keepalive notes) = Unit {0}
HasFew most (outcome.Withdraw all notes) = length all.ip4 + length all.ip6 ≤ most
HasFew most (outcome.Reset n) = Unit {0}

room : (body : List ℕ) → AreOctets body → (p : Parts) → parts_of body ≡ Some p → length p.withdrawn + length p.attributes + length p.nlri ≤ length body - 4
room body are p whole = omega (arith, ap length (parts-body body p are whole).octets ∙ length-body p.withdrawn p.attributes p.nlri)

pub has_few : (ctx : Context) (body : List ℕ) → AreOctets body → (k : Kind) → HasFew (length body - 4) (out_of ctx (record { kind = k; body = body }))
has_few ctx body are k =
    by_kind ctx body (HasFew (length body - 4)) (record { reset = λ n. tt; open_taken = λ o. tt; notification = λ n. tt; keepalive = tt })
    (λ p whole a. omega (arith, few_routes ctx p a, room body are p whole))
    (λ p whole. omega (arith, few_routes ctx p false, all_count p (marks_of ctx p), room body are p whole)) k
