-- An attribute that is kept is spelled by its octets, and they spell no other.
use Rattle.bgp_wire.proofs.Std.{◌≡◌, ℕ, ◌+◌, ◌%◌, ◌≤◌, Bool, true, false, not, ◌||◌, cond, eqb, List, [], ◌∷◌, ◌++◌, length, get_or, take, drop, Option, Some, None, inl, inr, refl, sym, ap, ap₂, subst, ◌∙◌, arith, eqb-false, ltb-false, not-false, or_parts, or_cases, cond_both, false≢true, take_at, drop_at, take-append-drop, nil_from_length, drop-take, take-take}
use Rattle.std.proofs.lemmas.Bool.{eqb-true, ne_eqb}
use Rattle.std.proofs.lemmas.List.{append-nil, length-take, length-drop}
use Rattle.bgp_numbers.specs.declared.afi.TheConstants.{IPV4, IPV6}
use Rattle.bgp_numbers.specs.declared.attribute.TheConstants.{ORIGIN, AS_PATH, NEXT_HOP, ATOMIC_AGGREGATE, COMMUNITIES, MP_REACH_NLRI, MP_UNREACH_NLRI, AS4_PATH, LARGE_COMMUNITY}
use Rattle.bgp_open.specs.declared.context.Context.{Context}
use Rattle.bgp_prefix.specs.Prelude.{PrefixValue, run_of}
use Rattle.bgp_wire.specs.Prelude.{AreOctets, Row}
use Rattle.bgp_wire.proofs.Behinds.{pieces-whole}
use Rattle.bgp_attr.specs.declared.aggregator.Aggregator.{Aggregator}
use Rattle.bgp_attr.specs.declared.class.Class.{Class}
use Rattle.bgp_attr.specs.declared.class.Class.TheVariants.{WellKnown, OptionalNonTransitive, OptionalTransitive}
use Rattle.bgp_attr.specs.declared.communities.Communities.{Communities}
use Rattle.bgp_attr.specs.declared.communities.LargeCommunities.{LargeCommunities}
use Rattle.bgp_attr.specs.declared.family.Family.{Family}
use Rattle.bgp_attr.specs.declared.opaque.Opaque.{Opaque}
use Rattle.bgp_attr.specs.declared.origin.Origin.{Origin}
use Rattle.bgp_attr.specs.declared.origin.Origin.TheVariants.{Igp, Egp, Incomplete}
use Rattle.bgp_attr.specs.declared.path.As4Path.{As4Path}
use Rattle.bgp_attr.specs.Prelude.{has_class, TlvValue, number_width, number_in, IsNumber, one_number, numbers_of, IsTriple, one_triple, triples_of, each_once, path_of, family_of, is_in_use, address_width, is_next_hop_length, next_hop_length, next_hop_of, reached_of, reach_of_family, mp_reach_of, withdrawn_of, unreach_of_family, mp_unreach_of, origin_of, as_path_form, as4_path_form, four_of, aggregator_of, communities_of, large_of, as4_path_of, opaque_of, has_bad_prefix, origin_tests, as_path_tests, next_hop_tests, four_tests, atomic_tests, aggregator_tests, communities_tests, mp_reach_tests, mp_unreach_tests, as4_path_tests, large_tests, other_tests, is_recognised, IsOfType, origin_code, IsOrigin, IsAsPath, IsNextHop, IsFour, IsAtomic, IsAggregator, IsCommunities, IsLarge, IsReach, link_octets, HasLink, IsReachValue, IsMpReach, IsUnreachValue, IsMpUnreach, IsAs4Path, IsOpaque}
use Rattle.bgp_attr.specs.declared.family.Family.TheVariants as family
use Rattle.bgp_attr.specs.declared.judged.Judged.TheVariants as judged
use Rattle.bgp_attr.proofs.Readers.{IsNumber-reads, IsTriple-reads}
use Rattle.bgp_attr.proofs.NumberRows.{number_row-whole, length-number_row, triple_row-whole, length-triple_row}
use Rattle.bgp_attr.proofs.SegmentRows.{fault-path, path-only}
use Rattle.bgp_attr.proofs.RouteRows.{hop_in, hop_in-length, octets-reach, octets-unreach}
use Rattle.bgp_attr.proofs.TestRows.{NoneApplies, passed, passed_fault}

-- ---- what is kept is spelled

origin-value : (b : List ℕ) → length b ≡ 1 → get_or b 0 0 ≤ 2 → b ≡ origin_code (origin_of b) ∷ []
origin-value [] one low = absurd (omega arith)
origin-value (x ∷ []) one low =
    let last : eqb x 0 ≡ false → eqb x 1 ≡ false → x ≡ 2 = λ e f. (let not0 : x ≡ 0 → ⊥ = eqb-false x 0 e in let not1 : x ≡ 1 → ⊥ = eqb-false x 1 f in omega arith) in
    let code : x ≡ origin_code (origin_of (x ∷ [])) =
    cond_both (eqb x 0) Igp (cond (eqb x 1) Egp Incomplete) (λ o. x ≡ origin_code o) (λ e. eqb-true x 0 e)
    (λ e. cond_both (eqb x 1) Egp Incomplete (λ o. x ≡ origin_code o) (λ f. eqb-true x 1 f) (λ f. last e f)) in
    ap (λ (n : ℕ). n ∷ []) code
origin-value (x ∷ y ∷ b) one low = absurd (omega arith)

-- a row of n octets each, and one at least
row_parts : (n m : ℕ) → (eqb m 0 || not (eqb (m % n) 0)) ≡ false → (m ≡ 0 → ⊥) × (m % n ≡ 0)
row_parts n m e =
    let p = or_parts (eqb m 0) (not (eqb (m % n) 0)) e in
    (eqb-false m 0 p.0, eqb-true (m % n) 0 (not-false _ p.1))

module _ (ctx : Context) (t : TlvValue) where
  of_type : (kind : ℕ) (class : Class) → t.kind ≡ kind → not (has_class class t.flags) ≡ false → IsOfType kind class t
  of_type kind class e flags = record { kind_is = e; class_is = not-false _ flags }

  as_long : (n : ℕ) → not (eqb (length t.value) n) ≡ false → length t.value ≡ n
  as_long n e = eqb-true (length t.value) n (not-false _ e)

  pub origin-spells : t.kind ≡ ORIGIN → NoneApplies (origin_tests t) → IsOrigin (origin_of t.value) t
  origin-spells e none = record {
    of_type = of_type ORIGIN WellKnown e (passed _ _ none.0);
    value = origin-value t.value (as_long 1 (passed _ _ none.1.0)) (ltb-false 2 _ (passed _ _ none.1.1.0));
  }

  pub as_path-spells : t.kind ≡ AS_PATH → NoneApplies (as_path_tests ctx t) → IsAsPath ctx (path_of (as_path_form ctx) t.value) t
  as_path-spells e none = record {
    of_type = of_type AS_PATH WellKnown e (passed _ _ none.0);
    path = fault-path (as_path_form ctx) t.value (passed_fault (λ fault. judged.Withdraw fault) _ none.1.0);
  }

  pub next_hop-spells : (has_nlri : Bool) → t.kind ≡ NEXT_HOP → NoneApplies (next_hop_tests has_nlri t) → IsNextHop t.value t
  next_hop-spells has_nlri e none = record {
    of_type = of_type NEXT_HOP WellKnown e (passed _ _ none.1.0);
    four = as_long 4 (passed _ _ none.1.1.0);
    value = refl;
  }

  pub four-spells : (kind : ℕ) (class : Class) → t.kind ≡ kind → NoneApplies (four_tests class t) → IsFour kind class (four_of t.value) t
  four-spells kind class e none = record {
    of_type = of_type kind class e (passed _ _ none.0);
    value = record { as_wide = as_long 4 (passed _ _ none.1.0); value = refl };
  }

  pub atomic-spells : t.kind ≡ ATOMIC_AGGREGATE → NoneApplies (atomic_tests t) → IsAtomic t
  atomic-spells e none = record {
    of_type = of_type ATOMIC_AGGREGATE WellKnown e (passed _ _ none.0);
    value = nil_from_length t.value (as_long 0 (passed _ _ none.1.0));
  }

  pub aggregator-spells : (kind : ℕ) (wide : Bool) → t.kind ≡ kind → NoneApplies (aggregator_tests wide t) → IsAggregator kind wide (aggregator_of wide t) t
  aggregator-spells kind wide e none =
      let long : length t.value ≡ number_width wide + 4 = as_long (number_width wide + 4) (passed _ _ none.1.0) in
      record {
        of_type = of_type kind OptionalTransitive e (passed _ _ none.0);
        number = take (number_width wide) t.value;
        value = sym (take-append-drop (number_width wide) t.value);
        asn = record { as_wide = omega (arith, length-take (number_width wide) t.value); value = refl };
        four = omega (arith, length-drop (number_width wide) t.value);
        partial = refl;
      }

  pub communities-spells : t.kind ≡ COMMUNITIES → NoneApplies (communities_tests t) → IsCommunities (communities_of t) t
  communities-spells e none =
      let parts = row_parts 4 (length t.value) (passed _ _ none.1.0) in
      let row : Row (IsNumber true) (numbers_of true t.value) t.value = number_row-whole true t.value parts.1 in
      record {
        of_type = of_type COMMUNITIES OptionalTransitive e (passed _ _ none.0);
        row = row;
        some = omega (arith, length-number_row true (numbers_of true t.value) t.value row, parts.0);
        partial = refl;
      }

  pub large-spells : t.kind ≡ LARGE_COMMUNITY → NoneApplies (large_tests t) → IsLarge (large_of t) t
  large-spells e none =
      let parts = row_parts 12 (length t.value) (passed _ _ none.1.0) in
      let row : Row IsTriple (triples_of t.value) t.value = triple_row-whole t.value parts.1 in
      record {
        of_type = of_type LARGE_COMMUNITY OptionalTransitive e (passed _ _ none.0);
        triples = triples_of t.value;
        row = row;
        some = omega (arith, length-triple_row (triples_of t.value) t.value row, parts.0);
        values = refl;
        partial = refl;
      }

  pub as4_path-spells : t.kind ≡ AS4_PATH → NoneApplies (as4_path_tests ctx t) → IsAs4Path (as4_path_of t) t
  as4_path-spells e none = record {
    of_type = of_type AS4_PATH OptionalTransitive e (passed _ _ none.1.0);
    path = fault-path as4_path_form t.value (passed_fault (λ fault. judged.Discard fault) _ none.1.1.1.0);
    partial = refl;
  }

  pub other-spells : is_recognised t.kind ≡ false → NoneApplies (other_tests t) → IsOpaque (opaque_of t) t
  other-spells e none = record { other = e; optional = not-false _ (passed _ _ none.0); kind = refl; transitive = refl; partial = refl; value = refl }

  -- ---- routes

  module _ (octets : AreOctets t.value) where
    abbrev v : List ℕ
    v = t.value

    -- the next hop of IPv6: one address, or two
    abbrev first_hop : List ℕ
    first_hop = take 16 (next_hop_of v)

    abbrev link_of : Option (List ℕ)
    link_of = cond (eqb (next_hop_length v) 32) (Some (take 16 (drop 16 (next_hop_of v)))) None

    abbrev routes6 : List PrefixValue
    routes6 = (run_of 16 (reached_of v)).0

    abbrev Ip6Value : Option (List ℕ) → Type 0
    Ip6Value link = (length first_hop ≡ 16) × HasLink link × IsReach IPV6 16 (first_hop ++ link_octets link) routes6 v

    one_hop : (n : ℕ) → next_hop_length v ≡ n → n ≡ 16 → length (hop_in v) ≡ next_hop_length v → IsReach IPV6 16 (hop_in v) routes6 v → Ip6Value None
    one_hop n is e long s =
        let sixteen : next_hop_length v ≡ 16 = is ∙ e in
        let same : hop_in v ≡ first_hop = ap (λ (k : ℕ). take k (next_hop_of v)) sixteen in
        (ap length (sym same) ∙ long ∙ sixteen, record { wide = tt }, subst (λ (h : List ℕ). IsReach IPV6 16 h routes6 v) (same ∙ sym (append-nil first_hop)) s)

    two_hops : next_hop_length v ≡ 32 → length (hop_in v) ≡ next_hop_length v → IsReach IPV6 16 (hop_in v) routes6 v → Ip6Value (Some (take 16 (drop 16 (next_hop_of v))))
    two_hops is long s =
        let n : List ℕ = next_hop_of v in
        let same : hop_in v ≡ take 32 n = ap (λ (k : ℕ). take k n) is in
        let halves : take 32 n ≡ take 16 n ++ take 16 (drop 16 n) =
        sym (take-append-drop 16 (take 32 n)) ∙ ap₂ ◌++◌ (take-take 16 32 n (omega arith)) (drop-take 16 16 n) in
        let there : 32 ≤ length n = omega (arith, ap length same, long, length-take 32 n) in
        let behind : length (take 16 (drop 16 n)) ≡ 16 = omega (arith, length-take 16 (drop 16 n), length-drop 16 n) in
        (omega (arith, length-take 16 n), record { wide = behind }, subst (λ (h : List ℕ). IsReach IPV6 16 h routes6 v) (same ∙ halves) s)

    reach-value : (o : Option Family) → family_of v ≡ o → 5 ≤ length v → 5 + next_hop_length v ≤ length v → is_in_use ctx o ≡ true → is_next_hop_length o (next_hop_length v) ≡ true
        → has_bad_prefix (address_width o) (reached_of v) ≡ false → IsReachValue (reach_of_family o v) v
    reach-value None e long longer used wide good = absurd (false≢true used)
    reach-value (Some family.Ip4) e long longer used wide good =
        let four : next_hop_length v ≡ 4 = eqb-true (next_hop_length v) 4 wide in
        let s = octets-reach family.Ip4 4 v octets e long longer good in (
          ap (λ (k : ℕ). length (take k (next_hop_of v))) (sym four) ∙ hop_in-length v longer ∙ four,
          subst (λ (k : ℕ). IsReach IPV4 4 (take k (next_hop_of v)) (run_of 4 (reached_of v)).0 v) four s,
        )
    reach-value (Some family.Ip6) e long longer used wide good =
        let s = octets-reach family.Ip6 16 v octets e long longer good in
        let held = hop_in-length v longer in
        elim (or_cases (eqb (next_hop_length v) 16) (eqb (next_hop_length v) 32) wide) [
          | inl one ↦
              let sixteen : next_hop_length v ≡ 16 = eqb-true (next_hop_length v) 16 one in
              let other : eqb (next_hop_length v) 32 ≡ false = ne_eqb (next_hop_length v) 32 (λ (e : next_hop_length v ≡ 32). absurd (omega arith)) in
              let none : link_of ≡ None = ap (λ (b : Bool). cond b (Some (take 16 (drop 16 (next_hop_of v)))) None) other in
              subst Ip6Value (sym none) (one_hop (next_hop_length v) refl sixteen held s)
          | inr both ↦
              let some : link_of ≡ Some (take 16 (drop 16 (next_hop_of v))) = ap (λ (b : Bool). cond b (Some (take 16 (drop 16 (next_hop_of v)))) None) both in
              subst Ip6Value (sym some) (two_hops (eqb-true (next_hop_length v) 32 both) held s)
        ]

    unreach-value : (o : Option Family) → family_of v ≡ o → 3 ≤ length v → is_in_use ctx o ≡ true → has_bad_prefix (address_width o) (withdrawn_of v) ≡ false → IsUnreachValue (unreach_of_family o v) v
    unreach-value None e long used good = absurd (false≢true used)
    unreach-value (Some family.Ip4) e long used good = octets-unreach family.Ip4 4 v octets e long good
    unreach-value (Some family.Ip6) e long used good = octets-unreach family.Ip6 16 v octets e long good

    pub mp_reach-spells : t.kind ≡ MP_REACH_NLRI → NoneApplies (mp_reach_tests ctx t) → IsMpReach (mp_reach_of t.value) t
    mp_reach-spells e none = record {
      of_type = of_type MP_REACH_NLRI OptionalNonTransitive e (passed _ _ none.0);
      value = reach-value (family_of v) refl (ltb-false _ _ (passed _ _ none.1.0)) (ltb-false _ _ (passed _ _ none.1.1.1.1.0)) (not-false _ (passed _ _ none.1.1.0)) (not-false _ (passed _ _ none.1.1.1.0))
          (passed _ _ none.1.1.1.1.1.0);
    }

    pub mp_unreach-spells : t.kind ≡ MP_UNREACH_NLRI → NoneApplies (mp_unreach_tests ctx t) → IsMpUnreach (mp_unreach_of t.value) t
    mp_unreach-spells e none = record {
      of_type = of_type MP_UNREACH_NLRI OptionalNonTransitive e (passed _ _ none.0);
      value = unreach-value (family_of v) refl (ltb-false _ _ (passed _ _ none.1.0)) (not-false _ (passed _ _ none.1.1.0)) (passed _ _ none.1.1.1.0);
    }

-- ---- and nothing else

module _ (t : TlvValue) where
  pub origin-only : (o : Origin) (b : List ℕ) → b ≡ origin_code o ∷ [] → origin_of b ≡ o
  origin-only Igp b e = ap origin_of e
  origin-only Egp b e = ap origin_of e
  origin-only Incomplete b e = ap origin_of e

  pub aggregator-only : (kind : ℕ) (wide : Bool) (a : Aggregator) → IsAggregator kind wide a t → aggregator_of wide t ≡ a
  aggregator-only kind wide a s =
      let width : length s.number ≡ number_width wide = (s.asn).as_wide in
      let front : take (number_width wide) t.value ≡ s.number = ap (take (number_width wide)) s.value ∙ take_at s.number a.addr (number_width wide) width in
      let back : drop (number_width wide) t.value ≡ a.addr = ap (drop (number_width wide)) s.value ∙ drop_at s.number a.addr (number_width wide) width in
      let value : number_in wide (take (number_width wide) t.value) ≡ (a.asn).0 = ap (λ (b : List ℕ). number_in wide b) front ∙ sym (s.asn).value in
      λ i. record { asn = record { 0 = value i }; addr = back i; partial = sym s.partial i }

  pub communities-only : (c : Communities) → IsCommunities c t → communities_of t ≡ c
  communities-only c s =
      let row = pieces-whole ℕ (IsNumber true) (one_number true) (IsNumber-reads true) c.values t.value s.row in
      λ i. record { partial = sym s.partial i; values = (row i).0 }

  pub large-only : (l : LargeCommunities) → IsLarge l t → large_of t ≡ l
  large-only l s =
      let row = pieces-whole (List ℕ) IsTriple one_triple IsTriple-reads s.triples t.value s.row in
      let values : each_once (triples_of t.value) ≡ l.values = ap (λ (q : List (List ℕ) × List ℕ). each_once q.0) row ∙ sym s.values in
      λ i. record { partial = sym s.partial i; values = values i }

  pub as4_path-only : (p : As4Path) → IsAs4Path p t → as4_path_of t ≡ p
  as4_path-only p s = λ i. record { partial = sym s.partial i; path = sym (path-only as4_path_form p.path t.value s.path) i }

  pub opaque-only : (o : Opaque) → IsOpaque o t → opaque_of t ≡ o
  opaque-only o s = λ i. record { kind = sym s.kind i; transitive = sym s.transitive i; partial = sym s.partial i; value = sym s.value i }
