-- The octets written for an attribute are one whole attribute, and are kept as the value that was written.
use Rattle.bgp_wire.proofs.Std.{◌≡◌, ℕ, ◌+◌, ◌*◌, ◌%◌, ◌^◌, ◌<◌, ◌≤◌, Bool, true, false, not, cond, eqb, ltb, List, [], ◌∷◌, ◌++◌, length, take, drop, Option, Some, None, refl, sym, ap, ap₂, ◌∙◌, arith, w16, w32, to_be_bytes, flat_map, AllByRecursion, le-ltb, ltb-false, or_from, or_left, or_right, from_be_bytes-to_be_bytes_2, from_be_bytes-to_be_bytes_4, take_at, drop_at}
use Rattle.std.proofs.lemmas.Bool.{eq-eqb, ne_eqb}
use Rattle.std.proofs.lemmas.List.{length-append}
use Rattle.bgp_numbers.specs.declared.attribute.TheConstants.{AGGREGATOR, AS4_AGGREGATOR}
use Rattle.bgp_numbers.specs.declared.afi.TheConstants.{IPV4, IPV6}
use Rattle.bgp_prefix.specs.Prelude.{PrefixValue, IsValid}
use Rattle.bgp_open.specs.declared.context.Context.{Context}
use Rattle.bgp_attr.specs.declared.aggregator.Aggregator.{Aggregator}
use Rattle.bgp_attr.specs.declared.communities.Communities.{Communities}
use Rattle.bgp_attr.specs.declared.communities.LargeCommunities.{LargeCommunities}
use Rattle.bgp_attr.specs.declared.path.As4Path.{As4Path}
use Rattle.bgp_attr.specs.declared.path.AsPath.{AsPath}
use Rattle.bgp_attr.specs.declared.family.Family.{Family}
use Rattle.bgp_attr.specs.declared.mp.MpReach.{MpReach}
use Rattle.bgp_attr.specs.declared.mp.MpUnreach.{MpUnreach}
use Rattle.bgp_attr.specs.Prelude.{family_of, is_in_use, address_width, is_next_hop_length, next_hop_length, reached_of, mp_reach_of, withdrawn_of, mp_unreach_of, is_extended, has_class, flags_octet, TlvValue, IsTlv, number_of_length, length_octets, number_width, number_in, number_octets, row_octets, triple_octets, each_once, origin_of, as_path_form, as4_path_form, aggregator_of, path_of, has_bad_prefix, mp_reach_tests, mp_unreach_tests, aggregator_tests, AttributeType, is_recognised, judgement, origin_code, IsReach, link_octets, HasLink, IsUnreach, optional_class, made, type_of, written_tlv, canonical, aggregator_octets, reach_row, reach_octets, unreach_row, unreach_octets, path_octets, repeats, IsFourOctets, IsThreeNumbers, is_writable, four_of, four_tests, is_partial}
use Rattle.bgp_attr.specs.declared.class.Class.{Class}
use Rattle.bgp_attr.specs.declared.class.Class.TheVariants.{WellKnown, OptionalNonTransitive, OptionalTransitive}
use Rattle.bgp_attr.specs.declared.attr.Attr.{Attr}
use Rattle.bgp_attr.specs.declared.opaque.Opaque.{Opaque}
use Rattle.bgp_attr.specs.declared.origin.Origin.{Origin}
use Rattle.bgp_attr.specs.declared.origin.Origin.TheVariants.{Igp, Egp, Incomplete}
use Rattle.bgp_attr.specs.declared.family.Family.TheVariants as family
use Rattle.bgp_attr.specs.declared.mp.MpReach.TheVariants as reach
use Rattle.bgp_attr.specs.declared.mp.MpUnreach.TheVariants as unreach
use Rattle.bgp_attr.specs.declared.attr.Attr.TheVariants as attr
use Rattle.bgp_attr.specs.declared.judged.Judged.TheVariants as judged
use Rattle.bgp_attr.proofs.FlagBits.{has_class-flags, is_partial-flags, is_optional-flags, is_transitive-flags}
use Rattle.bgp_attr.proofs.NumberRows.{Fits, number_in-octets, length-number_octets, length-row_octets, numbers_of-row_octets, length-triples, triples_of-octets}
use Rattle.bgp_attr.proofs.SegmentRows.{CanStand, path_of-octets, path_fault-octets, path_has_zero-octets, length-even, length-least}
use Rattle.bgp_attr.proofs.OnceLemmas.{each_once-same}
use Rattle.bgp_attr.proofs.RouteRows.{afi_number, reach-family, reach-hop_length, reach-long, reach-longer, reach-good, reach4-value, reach6-value, reach_row-spells, unreach-family, unreach-long, unreach-good, unreach4-value, unreach6-value, unreach_row-spells}
use Rattle.bgp_attr.proofs.TestRows.{NoneApplies, pass, pass_fault, row_at, row-at, row-other, keeps, writable-Writes}

-- ---- one whole attribute

size-wide : (t : Bool) (n : ℕ) → length (cond t (to_be_bytes w16 n) (n ∷ [])) ≡ cond t 2 1
size-wide true n = refl
size-wide false n = refl

size-counts : (t : Bool) (n : ℕ) → n < 2 ^ 16 → n ≡ number_of_length (cond t (to_be_bytes w16 n) (n ∷ []))
size-counts true n small = sym (from_be_bytes-to_be_bytes_2 n small)
size-counts false n small = refl

pub made-spells : (class : Class) (partial : Bool) (kind : ℕ) (value : List ℕ) → length value < 2 ^ 16 → IsTlv (made class partial kind value) (made class partial kind value).whole
made-spells class partial kind value small =
    let flags : ℕ = flags_octet class partial (ltb 255 (length value)) in
    record {
      size = length_octets flags (length value);
      octets = refl;
      wide = size-wide (is_extended flags) (length value);
      counted = size-counts (is_extended flags) (length value) small;
      whole = refl;
    }

pub written-spells : (ctx : Context) (a : Attr) → is_writable ctx a ≡ true → IsTlv (written_tlv ctx a) (canonical ctx a)
written-spells ctx a e =
    let w = writable-Writes ctx a e in
    let small : length (written_tlv ctx a).value ≤ 65535 = ltb-false 65535 (length (written_tlv ctx a).value) w.fits in
    made-spells _ _ _ _ (omega arith)

-- ---- kept as it was written

flags-right : (class : Class) (partial extended : Bool) → not (has_class class (flags_octet class partial extended)) ≡ false
flags-right class partial extended = ap not (has_class-flags class partial extended)

is_long : (n : ℕ) (value : List ℕ) → length value ≡ n → not (eqb (length value) n) ≡ false
is_long n value e = ap not (eq-eqb (length value) n e)

pub four-passes : (class : Class) (partial : Bool) (kind n : ℕ) → NoneApplies (four_tests class (made class partial kind (to_be_bytes w32 n)))
four-passes class partial kind n = (pass _ _ (flags-right class partial false), (refl, tt))

module _ (ctx : Context) (has_nlri : Bool) where
  abbrev ThisKept : Attr → Type 0
  ThisKept a = judgement ctx has_nlri (written_tlv ctx a) ≡ judged.Keep a

  pub this-kept : (a : Attr) → (let type : AttributeType = row_at ctx has_nlri (written_tlv ctx a) (type_of a) in type.value ≡ a → NoneApplies type.tests → ThisKept a)
  this-kept a value none = keeps ctx has_nlri (written_tlv ctx a) _ a (row-at ctx has_nlri (written_tlv ctx a) (type_of a) refl) value none

  -- a number of four octets, in the attribute made of it and of the Partial bit
  pub kept-four : (class : Class) (partial : Bool) (as_attr : ℕ → Bool → Attr) (n : ℕ) → IsFourOctets n
      → (let type : AttributeType = row_at ctx has_nlri (written_tlv ctx (as_attr n partial)) (type_of (as_attr n partial)) in
      type.value ≡ as_attr (four_of (to_be_bytes w32 n)) (is_partial (flags_octet class partial false)) → NoneApplies type.tests → ThisKept (as_attr n partial))
  kept-four class partial as_attr n small value none =
      this-kept (as_attr n partial) (value ∙ (λ i. as_attr (from_be_bytes-to_be_bytes_4 n small i) (is_partial-flags class partial false i))) none

  origin-back : (o : Origin) → origin_of (origin_code o ∷ []) ≡ o
  origin-back Igp = refl
  origin-back Egp = refl
  origin-back Incomplete = refl

  origin-low : (o : Origin) → ltb 2 (origin_code o) ≡ false
  origin-low Igp = refl
  origin-low Egp = refl
  origin-low Incomplete = refl

  pub kept-origin : (o : Origin) → ThisKept (attr.Origin o)
  kept-origin o =
      this-kept (attr.Origin o) (ap (λ (x : Origin). attr.Origin x) (origin-back o))
      (refl, (refl, (pass _ _ (origin-low o), tt)))

  pub kept-next_hop : (addr : List ℕ) → length addr ≡ 4 → has_nlri ≡ true → ThisKept (attr.NextHop addr)
  kept-next_hop addr four given =
      this-kept (attr.NextHop addr) refl
      (pass _ _ (ap not given), (pass _ _ (flags-right WellKnown false (ltb 255 (length addr))), (pass _ _ (is_long 4 addr four), tt)))

  -- an AS number and an address
  module _ (wide : Bool) (a : Aggregator) (small : Fits wide (a.asn).0) (nonzero : eqb (a.asn).0 0 ≡ false) (four : length a.addr ≡ 4) (kind : ℕ) where
    front : take (number_width wide) (aggregator_octets wide a) ≡ number_octets wide (a.asn).0
    front = take_at (number_octets wide (a.asn).0) a.addr (number_width wide) (length-number_octets wide (a.asn).0)

    back : drop (number_width wide) (aggregator_octets wide a) ≡ a.addr
    back = drop_at (number_octets wide (a.asn).0) a.addr (number_width wide) (length-number_octets wide (a.asn).0)

    number-back : number_in wide (take (number_width wide) (aggregator_octets wide a)) ≡ (a.asn).0
    number-back = ap (λ (b : List ℕ). number_in wide b) front ∙ number_in-octets wide (a.asn).0 small

    abbrev written : TlvValue
    written = made OptionalTransitive a.partial kind (aggregator_octets wide a)

    aggregator-back : aggregator_of wide written ≡ a
    aggregator-back =
        let partial = is_partial-flags OptionalTransitive a.partial (ltb 255 (length (aggregator_octets wide a))) in
        λ i. record { asn = record { 0 = number-back i }; addr = back i; partial = partial i }

    aggregator-passes : NoneApplies (aggregator_tests wide written)
    aggregator-passes =
        let length_is : length (aggregator_octets wide a) ≡ number_width wide + 4 = omega (arith, length-append (number_octets wide (a.asn).0) a.addr, length-number_octets wide (a.asn).0, four) in (
          pass _ _ (flags-right OptionalTransitive a.partial (ltb 255 (length (aggregator_octets wide a)))),
          (
            pass _ _ (is_long (number_width wide + 4) (aggregator_octets wide a) length_is),
            (pass _ _ (ap (λ (n : ℕ). eqb n 0) number-back ∙ nonzero), tt),
          ),
        )

  pub kept-aggregator : (a : Aggregator) → Fits ctx.as4 (a.asn).0 → eqb (a.asn).0 0 ≡ false → length a.addr ≡ 4 → ThisKept (attr.Aggregator a)
  kept-aggregator a small nonzero four =
      this-kept (attr.Aggregator a) (ap (λ (x : Aggregator). attr.Aggregator x) (aggregator-back ctx.as4 a small nonzero four AGGREGATOR))
      (aggregator-passes ctx.as4 a small nonzero four AGGREGATOR)

  pub kept-as4_aggregator : (a : Aggregator) → ctx.as4 ≡ false → Fits true (a.asn).0 → eqb (a.asn).0 0 ≡ false → length a.addr ≡ 4 → ThisKept (attr.As4Aggregator a)
  kept-as4_aggregator a narrow small nonzero four =
      this-kept (attr.As4Aggregator a) (ap (λ (x : Aggregator). attr.As4Aggregator x) (aggregator-back true a small nonzero four AS4_AGGREGATOR))
      (pass _ _ narrow, aggregator-passes true a small nonzero four AS4_AGGREGATOR)

  -- the value of a type that isn't recognised
  pub kept-opaque : (o : Opaque) → is_recognised o.kind ≡ false → ThisKept (attr.Opaque o)
  kept-opaque o other =
      let t : TlvValue = written_tlv ctx (attr.Opaque o) in
      let extended : Bool = ltb 255 (length o.value) in
      let transitive = is_transitive-flags o.transitive o.partial extended in
      let partial = is_partial-flags (optional_class o.transitive) o.partial extended in
      keeps ctx has_nlri t _ (attr.Opaque o) (row-other ctx has_nlri t other)
      (λ i. attr.Opaque (record { kind = o.kind; transitive = transitive i; partial = partial i; value = o.value }))
      (pass _ _ (ap not (is_optional-flags o.transitive o.partial extended)), tt)

  -- ---- paths

  pub kept-as_path : (p : AsPath) → CanStand ctx.as4 p → ThisKept (attr.AsPath p)
  kept-as_path p c =
      this-kept (attr.AsPath p) (ap (λ (x : AsPath). attr.AsPath x) (path_of-octets (as_path_form ctx) p c)) (
        pass _ _ (flags-right WellKnown false (ltb 255 (length (path_octets ctx.as4 p)))),
        (
          pass_fault (λ fault. judged.Withdraw fault) _ (path_fault-octets (as_path_form ctx) p c),
          (pass _ _ (path_has_zero-octets (as_path_form ctx) p c), tt),
        ),
      )

  pub kept-as4_path : (p : As4Path) → ctx.as4 ≡ false → CanStand true p.path → 0 < length (p.path).segments → ThisKept (attr.As4Path p)
  kept-as4_path p narrow c some =
      let t : TlvValue = written_tlv ctx (attr.As4Path p) in
      let octets : List ℕ = path_octets true p.path in
      let partial = is_partial-flags OptionalTransitive p.partial (ltb 255 (length octets)) in
      let back : path_of as4_path_form octets ≡ p.path = path_of-octets as4_path_form p.path c in
      let even : eqb (length octets % 2) 0 ≡ true = eq-eqb _ 0 (length-even p.path) in
      let long : ltb (length octets) 6 ≡ false = le-ltb _ 6 (length-least p.path some c.good) in
      let left : eqb (length (path_of as4_path_form octets).segments) 0 ≡ false =
      ap (λ (x : AsPath). eqb (length x.segments) 0) back ∙ ne_eqb (length (p.path).segments) 0 (λ e. omega arith) in
      this-kept (attr.As4Path p) (λ i. attr.As4Path (record { partial = partial i; path = back i })) (
        pass _ _ narrow,
        (
          pass _ _ (flags-right OptionalTransitive p.partial (ltb 255 (length octets))),
          (
            pass _ _ (or_from _ _ (ap not even) long),
            (pass_fault (λ fault. judged.Discard fault) _ (path_fault-octets as4_path_form p.path c), (pass _ _ (path_has_zero-octets as4_path_form p.path c), (pass _ _ left, tt))),
          ),
        ),
      )

  -- ---- communities

  pub kept-communities : (c : Communities) → AllByRecursion IsFourOctets c.values → 0 < length c.values → ThisKept (attr.Communities c)
  kept-communities c small some =
      let t : TlvValue = written_tlv ctx (attr.Communities c) in
      let octets : List ℕ = row_octets true c.values in
      let partial = is_partial-flags OptionalTransitive c.partial (ltb 255 (length octets)) in
      let values = numbers_of-row_octets true c.values small in
      let long : length octets ≡ 4 * length c.values = length-row_octets true c.values in
      let given : eqb (length octets) 0 ≡ false = ne_eqb _ 0 (λ (e : length octets ≡ 0). absurd (omega arith)) in
      let whole : eqb (length octets % 4) 0 ≡ true = eq-eqb _ 0 (omega arith) in
      this-kept (attr.Communities c) (λ i. attr.Communities (record { partial = partial i; values = values i }))
      (pass _ _ (flags-right OptionalTransitive c.partial (ltb 255 (length octets))), (pass _ _ (or_from _ _ given (ap not whole)), tt))

  pub kept-large : (l : LargeCommunities) → AllByRecursion IsThreeNumbers l.values → 0 < length l.values → repeats l.values ≡ false → ThisKept (attr.Large l)
  kept-large l small some once =
      let t : TlvValue = written_tlv ctx (attr.Large l) in
      let octets : List ℕ = flat_map triple_octets l.values in
      let partial = is_partial-flags OptionalTransitive l.partial (ltb 255 (length octets)) in
      let values = ap each_once (triples_of-octets l.values small) ∙ each_once-same l.values once in
      let long : length octets ≡ 12 * length l.values = length-triples l.values small in
      let given : eqb (length octets) 0 ≡ false = ne_eqb _ 0 (λ (e : length octets ≡ 0). absurd (omega arith)) in
      let whole : eqb (length octets % 12) 0 ≡ true = eq-eqb _ 0 (omega arith) in
      this-kept (attr.Large l) (λ i. attr.Large (record { partial = partial i; values = values i }))
      (pass _ _ (flags-right OptionalTransitive l.partial (ltb 255 (length octets))), (pass _ _ (or_from _ _ given (ap not whole)), tt))

  -- ---- routes of other families

  reach-passes : (f : Family) (hop : List ℕ) (routes : List PrefixValue) (t : TlvValue) → not (has_class OptionalNonTransitive t.flags) ≡ false
      → IsReach (afi_number f) (address_width (Some f)) hop routes t.value → is_in_use ctx (Some f) ≡ true → is_next_hop_length (Some f) (length hop) ≡ true → NoneApplies (mp_reach_tests ctx t)
  reach-passes f hop routes t flags s used long =
      let of_family : family_of t.value ≡ Some f = reach-family f (address_width (Some f)) hop routes t.value s in
      let hop_long : next_hop_length t.value ≡ length hop = reach-hop_length f (address_width (Some f)) hop routes t.value s in (
        pass _ _ flags,
        (
          pass _ _ (reach-long f (address_width (Some f)) hop routes t.value s),
          (
            pass _ _ (ap (λ (o : Option Family). not (is_in_use ctx o)) of_family ∙ ap not used),
            (
              pass _ _ (ap₂ (λ (o : Option Family) (n : ℕ). not (is_next_hop_length o n)) of_family hop_long ∙ ap not long),
              (
                pass _ _ (reach-longer f (address_width (Some f)) hop routes t.value s),
                (pass _ _ (ap (λ (o : Option Family). has_bad_prefix (address_width o) (reached_of t.value)) of_family ∙ reach-good f (address_width (Some f)) hop routes t.value s), tt),
              ),
            ),
          ),
        ),
      )

  unreach-passes : (f : Family) (routes : List PrefixValue) (t : TlvValue) → not (has_class OptionalNonTransitive t.flags) ≡ false
      → IsUnreach (afi_number f) (address_width (Some f)) routes t.value → is_in_use ctx (Some f) ≡ true → NoneApplies (mp_unreach_tests ctx t)
  unreach-passes f routes t flags s used =
      let of_family : family_of t.value ≡ Some f = unreach-family f (address_width (Some f)) routes t.value s in (
        pass _ _ flags,
        (
          pass _ _ (unreach-long f (address_width (Some f)) routes t.value s),
          (
            pass _ _ (ap (λ (o : Option Family). not (is_in_use ctx o)) of_family ∙ ap not used),
            (pass _ _ (ap (λ (o : Option Family). has_bad_prefix (address_width o) (withdrawn_of t.value)) of_family ∙ unreach-good f (address_width (Some f)) routes t.value s), tt),
          ),
        ),
      )

  kept-reach : (r : MpReach) → NoneApplies (mp_reach_tests ctx (written_tlv ctx (attr.MpReach r))) → mp_reach_of (reach_octets r) ≡ r → ThisKept (attr.MpReach r)
  kept-reach r none same =
      this-kept (attr.MpReach r) (ap (λ (x : MpReach). attr.MpReach x) same) none

  kept-unreach : (r : MpUnreach) → NoneApplies (mp_unreach_tests ctx (written_tlv ctx (attr.MpUnreach r))) → mp_unreach_of (unreach_octets r) ≡ r → ThisKept (attr.MpUnreach r)
  kept-unreach r none same =
      this-kept (attr.MpUnreach r) (ap (λ (x : MpUnreach). attr.MpUnreach x) same) none

  pub kept-reach4 : (hop : List ℕ) (routes : List PrefixValue) → length hop ≡ 4 → AllByRecursion (IsValid 4) routes → ctx.ip4 ≡ true → ThisKept (attr.MpReach (reach.Ip4 hop routes))
  kept-reach4 hop routes four valid used =
      let s : IsReach IPV4 4 hop routes (reach_row IPV4 hop routes) = reach_row-spells family.Ip4 4 hop routes valid in
      kept-reach (reach.Ip4 hop routes) (reach-passes family.Ip4 hop routes (written_tlv ctx (attr.MpReach (reach.Ip4 hop routes)))
      (flags-right OptionalNonTransitive false (ltb 255 (length (reach_row IPV4 hop routes)))) s used (eq-eqb _ 4 four)) (reach4-value hop routes (reach_row IPV4 hop routes) four s)

  two_lengths : (hop : List ℕ) (link : Option (List ℕ)) → length hop ≡ 16 → HasLink link → is_next_hop_length (Some family.Ip6) (length (hop ++ link_octets link)) ≡ true
  two_lengths hop None wide has = or_left _ _ (eq-eqb (length (hop ++ [])) 16 (omega (arith, length-append hop [])))
  two_lengths hop (Some addr) wide has =
      let sixteen : length addr ≡ 16 = has.wide in
      or_right _ _ (eq-eqb (length (hop ++ addr)) 32 (omega (arith, length-append hop addr)))

  pub kept-reach6 : (hop : List ℕ) (link : Option (List ℕ)) (routes : List PrefixValue) → length hop ≡ 16 → HasLink link → AllByRecursion (IsValid 16) routes → ctx.ip6 ≡ true
      → ThisKept (attr.MpReach (reach.Ip6 hop link routes))
  kept-reach6 hop link routes wide has valid used =
      let s : IsReach IPV6 16 (hop ++ link_octets link) routes (reach_row IPV6 (hop ++ link_octets link) routes) = reach_row-spells family.Ip6 16 (hop ++ link_octets link) routes valid in
      kept-reach (reach.Ip6 hop link routes) (reach-passes family.Ip6 (hop ++ link_octets link) routes (written_tlv ctx (attr.MpReach (reach.Ip6 hop link routes)))
      (flags-right OptionalNonTransitive false (ltb 255 (length (reach_row IPV6 (hop ++ link_octets link) routes)))) s used (two_lengths hop link wide has))
      (reach6-value hop link routes (reach_row IPV6 (hop ++ link_octets link) routes) wide has s)

  pub kept-unreach4 : (routes : List PrefixValue) → AllByRecursion (IsValid 4) routes → ctx.ip4 ≡ true → ThisKept (attr.MpUnreach (unreach.Ip4 routes))
  kept-unreach4 routes valid used =
      let s : IsUnreach IPV4 4 routes (unreach_row IPV4 routes) = unreach_row-spells family.Ip4 4 routes valid in
      kept-unreach (unreach.Ip4 routes) (unreach-passes family.Ip4 routes (written_tlv ctx (attr.MpUnreach (unreach.Ip4 routes)))
      (flags-right OptionalNonTransitive false (ltb 255 (length (unreach_row IPV4 routes)))) s used) (unreach4-value routes (unreach_row IPV4 routes) s)

  pub kept-unreach6 : (routes : List PrefixValue) → AllByRecursion (IsValid 16) routes → ctx.ip6 ≡ true → ThisKept (attr.MpUnreach (unreach.Ip6 routes))
  kept-unreach6 routes valid used =
      let s : IsUnreach IPV6 16 routes (unreach_row IPV6 routes) = unreach_row-spells family.Ip6 16 routes valid in
      kept-unreach (unreach.Ip6 routes) (unreach-passes family.Ip6 routes (written_tlv ctx (attr.MpUnreach (unreach.Ip6 routes)))
      (flags-right OptionalNonTransitive false (ltb 255 (length (unreach_row IPV6 routes)))) s used) (unreach6-value routes (unreach_row IPV6 routes) s)
