-- A kept attribute can be written where it was read, in no more octets than it had.
use Rattle.bgp_wire.proofs.Std.{◌≡◌, ℕ, suc, ◌+◌, ◌^◌, ◌<◌, ◌≤◌, Bool, true, false, not, ◌&&◌, ◌||◌, cond, eqb, ltb, List, [], ◌∷◌, ◌++◌, length, take, drop, Option, Some, None, refl, sym, ap, subst, ◌∙◌, arith, flat_map, AllByRecursion, w16, to_be_bytes, from_be_bytes, ltb-true, le-ltb, not-false, or_from, or_parts, and_left, and_right}
use Rattle.std.proofs.lemmas.Bool.{eqb-true, ne_eqb}
use Rattle.std.proofs.lemmas.List.{length-append, length-drop}
use Rattle.bgp_numbers.specs.declared.attribute.TheConstants.{COMMUNITIES, MP_REACH_NLRI, MP_UNREACH_NLRI, LARGE_COMMUNITY}
use Rattle.bgp_open.specs.declared.context.Context.{Context}
use Rattle.bgp_wire.specs.Prelude.{AreOctets}
use Rattle.bgp_wire.proofs.OctetLemmas.{AreOctets-front, AreOctets-back, AreOctets-take, AreOctets-drop}
use Rattle.bgp_attr.specs.declared.attr.Attr.{Attr}
use Rattle.bgp_attr.specs.declared.class.Class.{Class}
use Rattle.bgp_attr.specs.declared.mp.MpReach.{MpReach}
use Rattle.bgp_attr.specs.declared.mp.MpUnreach.{MpUnreach}
use Rattle.bgp_attr.specs.Prelude.{is_extended, is_partial, flags_octet, TlvValue, number_of_length, IsTlv, number_width, number_in, number_octets, numbers_of, triples_of, each_once, triple_octets, path_of, family_of, is_in_use, mp_reach_of, mp_unreach_of, origin_of, as_path_form, as4_path_form, four_of, aggregator_of, communities_of, large_of, as4_path_of, opaque_of, origin_tests, as_path_tests, next_hop_tests, four_tests, aggregator_tests, communities_tests, mp_reach_tests, mp_unreach_tests, as4_path_tests, as4_aggregator_tests, large_tests, is_recognised, link_octets, HasLink, IsReachValue, IsUnreachValue, made, value_octets, class_of, partial_of, type_of, aggregator_octets, is_too_wide, is_as4, is_empty, is_misnamed, has_as_zero, stands_twice, is_too_long, Belongs, IsThreeNumbers, IsAddress, HasLinkRange, HasRanges, CanBeWritten}
use Rattle.bgp_attr.specs.declared.attr.Attr.TheVariants as attr
use Rattle.bgp_attr.specs.declared.family.Family.TheVariants as family
use Rattle.bgp_attr.specs.declared.judged.Judged.TheVariants as judged
use Rattle.bgp_attr.specs.declared.mp.MpReach.TheVariants as reach
use Rattle.bgp_attr.specs.declared.mp.MpUnreach.TheVariants as unreach
use Rattle.bgp_attr.proofs.FlagBits.{is_extended-flags}
use Rattle.bgp_attr.proofs.NumberRows.{Fits, Fits-four, number_in-small, length-number_octets, length-row_octets, length-number_row, number_row-small, length-triple_row, triple_row-small, length-triples}
use Rattle.bgp_attr.proofs.OnceLemmas.{each_once-repeats, each_once-all, each_once-shorter, each_once-some}
use Rattle.bgp_attr.proofs.SegmentRows.{path-rewrites}
use Rattle.bgp_attr.proofs.RouteRows.{reach-family, reach-hop_octets, reach-valid, reach-rewritten, unreach-family, unreach-valid, unreach-rewritten}
use Rattle.bgp_attr.proofs.Kept.{communities-spells, large-spells, mp_reach-spells, mp_unreach-spells}
use Rattle.bgp_attr.proofs.TestRows.{NoneApplies, passed, passed_fault, Writes-writable}

-- ---- what writing each value needs, but for its length field

-- the attribute's value can be written, in no more octets than it had
pub record Rewritten (ctx : Context) (has_nlri : Bool) (t : TlvValue) (a : Attr) : Type 0 where
  narrow : is_too_wide ctx a ≡ false
  allowed : (ctx.as4 && is_as4 a) ≡ false
  some : is_empty a ≡ false
  named : is_misnamed a ≡ false
  nonzero : has_as_zero a ≡ false
  once : stands_twice a ≡ false
  in_place : Belongs ctx has_nlri a
  ranges : HasRanges a
  shorter : length (value_octets ctx a) ≤ length t.value

narrow_where : (b x : Bool) → (b ≡ false → x ≡ false) → (not b && x) ≡ false
narrow_where true x h = refl
narrow_where false x h = h refl

number_narrow : (wide : Bool) (n : ℕ) → Fits wide n → (not wide && ltb 65535 n) ≡ false
number_narrow true n small = refl
number_narrow false n small = le-ltb 65535 n (omega arith)

module _ (ctx : Context) (has_nlri : Bool) (t : TlvValue) (octets : AreOctets t.value) where
  rewritten : (a : Attr) → is_too_wide ctx a ≡ false → (ctx.as4 && is_as4 a) ≡ false → is_empty a ≡ false → is_misnamed a ≡ false → has_as_zero a ≡ false → stands_twice a ≡ false
      → Belongs ctx has_nlri a → HasRanges a → length (value_octets ctx a) ≤ length t.value → Rewritten ctx has_nlri t a
  rewritten a narrow allowed some named nonzero once in_place ranges shorter =
      record { narrow = narrow; allowed = allowed; some = some; named = named; nonzero = nonzero; once = once; in_place = in_place; ranges = ranges; shorter = shorter }

  none_as4 : (ctx.as4 && false) ≡ false
  none_as4 = and_right ctx.as4 false refl

  -- an attribute that only a wrong message or range could keep from being written
  abbrev IsPlain : Attr → Type 0
  IsPlain a = (is_as4 a || (is_too_wide ctx a || (is_empty a || (is_misnamed a || (has_as_zero a || stands_twice a))))) ≡ false

  pub plain : (a : Attr) → IsPlain a → Belongs ctx has_nlri a → HasRanges a → length (value_octets ctx a) ≤ length t.value → Rewritten ctx has_nlri t a
  plain a quiet in_place ranges shorter =
      let p = or_parts (is_as4 a) _ quiet in
      let q = or_parts (is_too_wide ctx a) _ p.1 in
      let r = or_parts (is_empty a) _ q.1 in
      let s = or_parts (is_misnamed a) _ r.1 in
      let u = or_parts (has_as_zero a) (stands_twice a) s.1 in
      rewritten a q.0 (and_right ctx.as4 (is_as4 a) p.0) r.0 s.0 u.0 u.1 in_place ranges shorter

  as_long : (n : ℕ) → not (eqb (length t.value) n) ≡ false → length t.value ≡ n
  as_long n e = eqb-true (length t.value) n (not-false _ e)

  pub origin-rewritten : NoneApplies (origin_tests t) → Rewritten ctx has_nlri t (attr.Origin (origin_of t.value))
  origin-rewritten none = let long : length t.value ≡ 1 = as_long 1 (passed _ _ none.1.0) in plain (attr.Origin (origin_of t.value)) refl tt tt (omega arith)

  pub as_path-rewritten : NoneApplies (as_path_tests ctx t) → Rewritten ctx has_nlri t (attr.AsPath (path_of (as_path_form ctx) t.value))
  as_path-rewritten none =
      let r = path-rewrites (as_path_form ctx) t.value octets (passed_fault (λ fault. judged.Withdraw fault) _ none.1.0) (passed _ _ none.1.1.0) in
      rewritten (attr.AsPath (path_of (as_path_form ctx) t.value)) (narrow_where ctx.as4 _ r.low) none_as4 r.good refl r.nonzero refl tt r.ranges r.shorter

  pub next_hop-rewritten : NoneApplies (next_hop_tests has_nlri t) → Rewritten ctx has_nlri t (attr.NextHop t.value)
  next_hop-rewritten none =
      plain (attr.NextHop t.value) refl (not-false _ (passed _ _ none.0)) (record { wide = as_long 4 (passed _ _ none.1.1.0); octets = octets }) (omega arith)

  -- a number of four octets, where it belongs, in the attribute made of it and of the Partial bit
  abbrev four_in : (ℕ → Bool → Attr) → Attr
  four_in as_attr = as_attr (four_of t.value) (is_partial t.flags)

  pub four-rewritten : (class : Class) (as_attr : ℕ → Bool → Attr) → IsPlain (four_in as_attr) → length (value_octets ctx (four_in as_attr)) ≡ 4
      → (four_of t.value < 2 ^ 32 → HasRanges (four_in as_attr)) → Belongs ctx has_nlri (four_in as_attr) → NoneApplies (four_tests class t) → Rewritten ctx has_nlri t (four_in as_attr)
  four-rewritten class as_attr quiet four small in_place none =
      let long : length t.value ≡ 4 = as_long 4 (passed _ _ none.1.0) in
      plain (four_in as_attr) quiet in_place (small (number_in-small true t.value octets)) (omega (arith, four, long))

  pub atomic-rewritten : Rewritten ctx has_nlri t attr.Atomic
  atomic-rewritten = plain attr.Atomic refl tt tt (omega arith)

  -- the AS number and the address of an aggregator
  module _ (wide : Bool) (none : NoneApplies (aggregator_tests wide t)) where
    abbrev asn : ℕ
    asn = number_in wide (take (number_width wide) t.value)

    asn_fits : Fits wide asn
    asn_fits = number_in-small wide (take (number_width wide) t.value) (AreOctets-take (number_width wide) t.value octets)

    asn_nonzero : eqb asn 0 ≡ false
    asn_nonzero = passed _ _ none.1.1.0

    long_is : length t.value ≡ number_width wide + 4
    long_is = as_long (number_width wide + 4) (passed _ _ none.1.0)

    address : IsAddress 4 (drop (number_width wide) t.value)
    address = record { wide = omega (arith, length-drop (number_width wide) t.value, long_is); octets = AreOctets-drop (number_width wide) t.value octets }

    as_short : length (aggregator_octets wide (aggregator_of wide t)) ≤ length t.value
    as_short =
        omega (arith, length-append (number_octets wide asn) (drop (number_width wide) t.value), length-number_octets wide asn, length-drop (number_width wide) t.value, long_is)

  pub aggregator-rewritten : NoneApplies (aggregator_tests ctx.as4 t) → Rewritten ctx has_nlri t (attr.Aggregator (aggregator_of ctx.as4 t))
  aggregator-rewritten none =
      let fits = asn_fits ctx.as4 none in
      rewritten (attr.Aggregator (aggregator_of ctx.as4 t)) (number_narrow ctx.as4 (asn ctx.as4 none) fits) none_as4 refl refl (asn_nonzero ctx.as4 none) refl tt
      (Fits-four ctx.as4 (asn ctx.as4 none) fits, address ctx.as4 none) (as_short ctx.as4 none)

  pub as4_aggregator-rewritten : NoneApplies (as4_aggregator_tests ctx t) → Rewritten ctx has_nlri t (attr.As4Aggregator (aggregator_of true t))
  as4_aggregator-rewritten none =
      rewritten (attr.As4Aggregator (aggregator_of true t)) refl (and_left ctx.as4 true (passed _ _ none.0)) refl refl (asn_nonzero true none.1) refl tt
      (asn_fits true none.1, address true none.1) (as_short true none.1)

  pub communities-rewritten : t.kind ≡ COMMUNITIES → NoneApplies (communities_tests t) → Rewritten ctx has_nlri t (attr.Communities (communities_of t))
  communities-rewritten e none =
      let s = communities-spells ctx t e none in
      let some : 0 < length (numbers_of true t.value) = s.some in
      rewritten (attr.Communities (communities_of t)) refl none_as4 (ne_eqb (length (numbers_of true t.value)) 0 (λ (e : length (numbers_of true t.value) ≡ 0). absurd (omega arith)))
      refl refl refl tt (number_row-small true (numbers_of true t.value) t.value octets s.row)
      (omega (arith, length-row_octets true (numbers_of true t.value), length-number_row true (numbers_of true t.value) t.value s.row))

  pub large-rewritten : t.kind ≡ LARGE_COMMUNITY → NoneApplies (large_tests t) → Rewritten ctx has_nlri t (attr.Large (large_of t))
  large-rewritten e none =
      let s = large-spells ctx t e none in
      let all = each_once-all IsThreeNumbers s.triples (triple_row-small s.triples t.value octets s.row) in
      let some : 0 < length (each_once (triples_of t.value)) = subst (λ (xs : List (List ℕ)). 0 < length xs) (sym s.values) (each_once-some s.triples s.some) in
      rewritten (attr.Large (large_of t)) refl none_as4 (ne_eqb (length (each_once (triples_of t.value))) 0 (λ (e : length (each_once (triples_of t.value)) ≡ 0). absurd (omega arith)))
      refl refl (each_once-repeats (triples_of t.value)) tt (subst (λ (xs : List (List ℕ)). AllByRecursion IsThreeNumbers xs) (sym s.values) all)
      (omega (arith, ap (λ (xs : List (List ℕ)). length (flat_map triple_octets xs)) s.values, length-triples (each_once s.triples) all, each_once-shorter s.triples, length-triple_row s.triples t.value s.row))

  pub as4_path-rewritten : NoneApplies (as4_path_tests ctx t) → Rewritten ctx has_nlri t (attr.As4Path (as4_path_of t))
  as4_path-rewritten none =
      let r = path-rewrites as4_path_form t.value octets (passed_fault (λ fault. judged.Discard fault) _ none.1.1.1.0) (passed _ _ none.1.1.1.1.0) in
      rewritten (attr.As4Path (as4_path_of t)) refl (and_left ctx.as4 true (passed _ _ none.0)) (or_from _ _ (passed _ _ none.1.1.1.1.1.0) r.good) refl r.nonzero refl tt r.ranges r.shorter

  pub other-rewritten : is_recognised t.kind ≡ false → t.kind < 256 → Rewritten ctx has_nlri t (attr.Opaque (opaque_of t))
  other-rewritten e small = rewritten (attr.Opaque (opaque_of t)) refl none_as4 refl e refl refl tt (small, octets) (omega arith)

  -- ---- routes

  link_range : (hop : List ℕ) (link : Option (List ℕ)) → HasLink link → AreOctets (hop ++ link_octets link) → HasLinkRange link
  link_range hop None has both = tt
  link_range hop (Some addr) has both = record { wide = has.wide; octets = AreOctets-back hop addr both }

  reach-rewrites : (r : MpReach) → IsReachValue r t.value → is_in_use ctx (family_of t.value) ≡ true → Rewritten ctx has_nlri t (attr.MpReach r)
  reach-rewrites (reach.Ip4 hop routes) s used =
      plain (attr.MpReach (reach.Ip4 hop routes)) refl (ap (is_in_use ctx) (sym (reach-family family.Ip4 4 hop routes t.value s.1)) ∙ used)
      (record { wide = s.0; octets = reach-hop_octets family.Ip4 4 hop routes t.value octets s.1 }, reach-valid family.Ip4 4 hop routes t.value octets s.1)
      (omega (arith, reach-rewritten family.Ip4 4 hop routes t.value octets s.1))
  reach-rewrites (reach.Ip6 hop link routes) s used =
      let both : AreOctets (hop ++ link_octets link) = reach-hop_octets family.Ip6 16 (hop ++ link_octets link) routes t.value octets s.2 in
      plain (attr.MpReach (reach.Ip6 hop link routes)) refl (ap (is_in_use ctx) (sym (reach-family family.Ip6 16 (hop ++ link_octets link) routes t.value s.2)) ∙ used)
      (record { wide = s.0; octets = AreOctets-front hop (link_octets link) both }, link_range hop link s.1 both, reach-valid family.Ip6 16 (hop ++ link_octets link) routes t.value octets s.2)
      (omega (arith, reach-rewritten family.Ip6 16 (hop ++ link_octets link) routes t.value octets s.2))

  unreach-rewrites : (r : MpUnreach) → IsUnreachValue r t.value → is_in_use ctx (family_of t.value) ≡ true → Rewritten ctx has_nlri t (attr.MpUnreach r)
  unreach-rewrites (unreach.Ip4 routes) s used =
      plain (attr.MpUnreach (unreach.Ip4 routes)) refl (ap (is_in_use ctx) (sym (unreach-family family.Ip4 4 routes t.value s)) ∙ used)
      (unreach-valid family.Ip4 4 routes t.value octets s) (omega (arith, unreach-rewritten family.Ip4 4 routes t.value octets s))
  unreach-rewrites (unreach.Ip6 routes) s used =
      plain (attr.MpUnreach (unreach.Ip6 routes)) refl (ap (is_in_use ctx) (sym (unreach-family family.Ip6 16 routes t.value s)) ∙ used)
      (unreach-valid family.Ip6 16 routes t.value octets s) (omega (arith, unreach-rewritten family.Ip6 16 routes t.value octets s))

  pub mp_reach-rewritten : t.kind ≡ MP_REACH_NLRI → NoneApplies (mp_reach_tests ctx t) → Rewritten ctx has_nlri t (attr.MpReach (mp_reach_of t.value))
  mp_reach-rewritten e none = reach-rewrites (mp_reach_of t.value) (mp_reach-spells ctx t octets e none).value (not-false _ (passed _ _ none.1.1.0))

  pub mp_unreach-rewritten : t.kind ≡ MP_UNREACH_NLRI → NoneApplies (mp_unreach_tests ctx t) → Rewritten ctx has_nlri t (attr.MpUnreach (mp_unreach_of t.value))
  mp_unreach-rewritten e none = unreach-rewrites (mp_unreach_of t.value) (mp_unreach-spells ctx t octets e none).value (not-false _ (passed _ _ none.1.1.0))

-- ---- the length field

-- what holds of the number in a length field
record Holds (size : List ℕ) : Type 0 where
  some : 1 ≤ length size
  few : length size ≡ 1 → number_of_length size < 256
  low : number_of_length size < 2 ^ 16

two-holds : (x y : ℕ) → AreOctets (x ∷ y ∷ []) → from_be_bytes w16 (x ∷ y ∷ []) < 2 ^ 16
two-holds x y octets = number_in-small false (x ∷ y ∷ []) octets

size-holds : (size : List ℕ) (extended : Bool) → AreOctets size → length size ≡ cond extended 2 1 → Holds size
size-holds [] true octets wide = absurd (omega arith)
size-holds [] false octets wide = absurd (omega arith)
size-holds (x ∷ []) extended octets wide = let small : x < 256 = octets 0 in record { some = omega arith; few = λ e. small; low = omega arith }
size-holds (x ∷ y ∷ []) extended octets wide = record { some = omega arith; few = λ (e : length (x ∷ y ∷ []) ≡ 1). absurd (omega arith); low = two-holds x y octets }
size-holds (x ∷ y ∷ z ∷ size) true octets wide = absurd (omega arith)
size-holds (x ∷ y ∷ z ∷ size) false octets wide = absurd (omega arith)

-- a value of n octets with its length field is at least as long as one of at most n with the shortest length field
field-shorter : (size : List ℕ) (n m : ℕ) (long : Bool) → Holds size → n ≡ number_of_length size → m ≤ n → ltb 255 m ≡ long → length (cond long (to_be_bytes w16 m) (m ∷ [])) + m ≤ length size + n
field-shorter size n m false h is le e = omega (arith, h.some)
field-shorter size n m true h is le e =
    let big : 255 < m = ltb-true 255 m e in
    let two : length size ≡ 1 → ⊥ = λ one. (let few : number_of_length size < 256 = h.few one in omega arith) in
    omega (arith, h.some, two)

length-made : (class : Class) (partial : Bool) (kind : ℕ) (value : List ℕ)
    → length (made class partial kind value).whole ≡ suc (suc (length (cond (ltb 255 (length value)) (to_be_bytes w16 (length value)) (length value ∷ [])) + length value))
length-made class partial kind value =
    let extended : is_extended (flags_octet class partial (ltb 255 (length value))) ≡ ltb 255 (length value) = is_extended-flags class partial (ltb 255 (length value)) in
    ap (λ (b : Bool). suc (suc (length (cond b (to_be_bytes w16 (length value)) (length value ∷ []) ++ value)))) extended
    ∙ ap (λ (n : ℕ). suc (suc n)) (length-append (cond (ltb 255 (length value)) (to_be_bytes w16 (length value)) (length value ∷ [])) value)

-- what can be written but for its length field fits one
pub rewritten-fits : (ctx : Context) (has_nlri : Bool) (t : TlvValue) (a : Attr) (b : List ℕ) (s : IsTlv t b) → AreOctets s.size → Rewritten ctx has_nlri t a → CanBeWritten ctx has_nlri a b
rewritten-fits ctx has_nlri t a b s octets r =
    let h = size-holds s.size (is_extended t.flags) octets s.wide in
    let low : number_of_length s.size < 2 ^ 16 = h.low in
    let shorter : length (value_octets ctx a) ≤ length t.value = r.shorter in
    let field = field-shorter s.size (length t.value) (length (value_octets ctx a)) (ltb 255 (length (value_octets ctx a))) h s.counted shorter refl in
    let fits : is_too_long ctx a ≡ false = le-ltb 65535 (length (value_octets ctx a)) (omega (arith, s.counted)) in
    record {
      writable = Writes-writable ctx a (record { narrow = r.narrow; allowed = r.allowed; some = r.some; named = r.named; nonzero = r.nonzero; once = r.once; fits = fits });
      in_place = r.in_place;
      ranges = r.ranges;
      no_longer = omega (arith, length-made (class_of a) (partial_of a) (type_of a) (value_octets ctx a), field, ap length s.octets, length-append s.size t.value);
    }
