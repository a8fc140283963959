-- A message has no more numbers in its path, and no more communities, than octets after its header and its two lengths.
use Rattle.ristulva_c.proofs.Below.{◌≡◌, ℕ, suc, ◌+◌, ◌-◌, ◌*◌, ◌≤◌, Bool, true, false, cond, eqb, ltb, List, [], ◌∷◌, ◌++◌, length, Option, Some, None, refl, sym, ap, subst, ◌∙◌, arith, flat_map, length-append, length-map, length-take, flat_map-cons, AS_PATH, AS4_PATH, AreOctets, Row, Kind, Context, AsNumber, Aggregator, Communities, LargeCommunities, As4Path, AsPath, SegKind, Set, Seq, Segment, PathForm, number_width, IsNumber, one_number, IsTriple, one_triple, triples_of, WireSegment, IsSegment, one_segment, segments_of, kept_segment, segment_kept_as, kind_of_segment, as_number, path_of, as_path_form, as4_path_form, items_of, items_behind, front_by, lead, rebuilt_path, rebuilt_by, rebuilt, is_as_trans, marks_of, Parts, kept_of, attrs_of, Attrs, PathInfo, out_of, Outcome, not_more, Splits-pieces, IsNumber-reads, IsSegment-reads, IsTriple-reads, length-body, parts-body}
use Rattle.bgp_attr.proofs.OnceLemmas.{each_once-shorter}
use Rattle.bgp_attr.proofs.NumberRows.{length-number_row}
use Rattle.ristulva_c.specs.Prelude.{attrs_in, numbers_in, community_row, communities_told, community_rows, large_row, large_told, large_rows, path_rows, number_rows, IsViewed}
use Rattle.ristulva_c.proofs.FactPlaces.{are_kept}
use Rattle.ristulva_c.proofs.FirstPlaces.{found_lies}
use Rattle.ristulva_c.proofs.KeptPlaces.{path_first, as4_path_first, communities_first, large_first}
use Rattle.ristulva_c.proofs.NumberRows.{rows_count}

-- ---- the segments of a path, and their numbers

abbrev weight : List Segment → ℕ
weight [] = 0
weight (s ∷ later) = suc (length s.numbers) + weight later

numbers_weigh : (ss : List Segment) → numbers_in ss + length ss ≡ weight ss
numbers_weigh [] = refl
numbers_weigh (s ∷ later) = omega (arith, numbers_weigh later)

weight-append : (xs ys : List Segment) → weight (xs ++ ys) ≡ weight xs + weight ys
weight-append [] ys = omega arith
weight-append (s ∷ xs) ys = omega (arith, weight-append xs ys)

kept_weight : (kind : Option SegKind) (numbers : List ℕ) → weight (segment_kept_as kind numbers) ≤ suc (length numbers)
kept_weight None numbers = omega arith
kept_weight (Some kind) numbers = omega (arith, length-map numbers as_number)

at_least : (wide : Bool) (n len : ℕ) → len ≡ number_width wide * n → 2 * n ≤ len
at_least true n len e = omega (arith, e)
at_least false n len e = omega (arith, e)

row_weight : (form : PathForm) (ss : List WireSegment) (b : List ℕ) → Row (IsSegment form) ss b → 2 * weight (flat_map kept_segment ss) ≤ length b
row_weight form [] b row = omega arith
row_weight form (s ∷ ss) b row =
    let p = row.3 in
    let numbers : 2 * length s.numbers ≤ length (p.counted).row = at_least form.wide _ _ (length-number_row form.wide s.numbers (p.counted).row (p.counted).spelled) in
    let front : length row.0 ≡ suc (suc (length (p.counted).row)) = ap length p.octets ∙ ap suc (ap length (p.counted).octets) in
    let both : weight (flat_map kept_segment (s ∷ ss)) ≡ weight (kept_segment s) + weight (flat_map kept_segment ss) =
    ap weight (flat_map-cons kept_segment s ss) ∙ weight-append (kept_segment s) (flat_map kept_segment ss) in
    let first : weight (kept_segment s) ≤ suc (length s.numbers) = kept_weight (kind_of_segment s.code) s.numbers in
    omega (arith, both, first, numbers, front, row_weight form ss row.1 row.4, ap length row.2, length-append row.0 row.1)

-- each takes two octets at least
path_weight : (form : PathForm) (b : List ℕ) → 2 * weight (path_of form b).segments ≤ length b
path_weight form b =
    let s = Splits-pieces WireSegment (IsSegment form) (one_segment form) (IsSegment-reads form) b in
    omega (arith, row_weight form (segments_of form b).0 s.row s.spelled, ap length s.whole, length-append s.row (segments_of form b).1)

front_weight : (k : ℕ) (kind : SegKind) (numbers : List AsNumber) → weight (front_by k kind numbers) ≤ suc (length numbers)
front_weight k Set numbers = omega arith
front_weight k Seq [] = omega arith
front_weight k Seq (n ∷ numbers) = omega (arith, length-take k (n ∷ numbers))

lead_by : (b : Bool) (s : Segment) (later front rest : List Segment) → weight front ≤ suc (length s.numbers) → weight rest ≤ weight later → weight (cond b [] (front ++ rest)) ≤ weight (s ∷ later)
lead_by true s later front rest one more = omega arith
lead_by false s later front rest one more = omega (arith, weight-append front rest, one, more)

lead_weight : (k : ℕ) (ss : List Segment) → weight (lead k ss) ≤ weight ss
lead_weight k [] = omega arith
lead_weight k (s ∷ later) =
    lead_by (eqb k 0) s later (front_by k s.kind s.numbers) (lead (items_behind k s) later) (front_weight k s.kind s.numbers) (lead_weight (items_behind k s) later)

joined_by : (b : Bool) (path wide : AsPath) (k : ℕ) → weight (cond b path (record { segments = lead k path.segments ++ wide.segments })).segments ≤ weight path.segments + weight wide.segments
joined_by true path wide k = omega arith
joined_by false path wide k = omega (arith, weight-append (lead k path.segments) wide.segments, lead_weight k path.segments)

abbrev path_weight_of : Option AsPath → ℕ
path_weight_of None = 0
path_weight_of (Some p) = weight p.segments

abbrev as4_weight_of : Option As4Path → ℕ
as4_weight_of None = 0
as4_weight_of (Some p) = weight p.path.segments

rebuilt_path_weight : (path : Option AsPath) (wide : Option As4Path) → path_weight_of (rebuilt_path path wide) ≤ path_weight_of path + as4_weight_of wide
rebuilt_path_weight None wide = omega arith
rebuilt_path_weight (Some path) None = omega arith
rebuilt_path_weight (Some path) (Some wide) =
    joined_by (ltb (items_of path.segments) (items_of wide.path.segments)) path wide.path (items_of path.segments - items_of wide.path.segments)

by_stand_in : (b : Bool) (wide a : Aggregator) (path : Option AsPath) (as4_path : Option As4Path)
    → path_weight_of (cond {A = PathInfo} b (record { path = rebuilt_path path as4_path; aggregator = Some wide }) (record { path = path; aggregator = Some a })).path ≤ path_weight_of path + as4_weight_of as4_path
by_stand_in true wide a path as4_path = rebuilt_path_weight path as4_path
by_stand_in false wide a path as4_path = omega arith

rebuilt_weight : (a w : Option Aggregator) (path : Option AsPath) (as4_path : Option As4Path) → path_weight_of (rebuilt_by a w path as4_path).path ≤ path_weight_of path + as4_weight_of as4_path
rebuilt_weight (Some a) (Some wide) path as4_path = by_stand_in (is_as_trans a) wide a path as4_path
rebuilt_weight (Some a) None path as4_path = rebuilt_path_weight path as4_path
rebuilt_weight None w path as4_path = rebuilt_path_weight path as4_path

-- ---- the attributes of an UPDATE that is accepted

-- they have at most this many numbers
pub record HasFewNumbers (most : ℕ) (a : Attrs) : Type 0 where
  pub path : (p : AsPath) → (rebuilt a).path ≡ Some p → numbers_in p.segments + length p.segments ≤ most
  pub communities : (c : Communities) → a.communities ≡ Some c → length c.values ≤ most
  pub large : (l : LargeCommunities) → a.large ≡ Some l → length l.values ≤ most

module _ (ctx : Context) (p : Parts) where
  abbrev kept : Attrs
  kept = attrs_of (kept_of (marks_of ctx p))

  path_found : (o : Option AsPath) → kept.as_path ≡ o → 2 * path_weight_of o ≤ length p.attributes
  path_found None is = omega arith
  path_found (Some r) is =
      let f = path_first ctx p r is in
      let l = found_lies (λ t. eqb t.tlv.kind AS_PATH) p.attributes f.place f.first in
      omega (arith, ap (λ (x : AsPath). weight x.segments) f.holds, path_weight (as_path_form ctx) f.place.tlv.value, l.longer, l.within)

  as4_path_found : (o : Option As4Path) → kept.as4_path ≡ o → 2 * as4_weight_of o ≤ length p.attributes
  as4_path_found None is = omega arith
  as4_path_found (Some r) is =
      let f = as4_path_first ctx p r is in
      let l = found_lies (λ t. eqb t.tlv.kind AS4_PATH) p.attributes f.place f.first in
      omega (arith, ap (λ (x : As4Path). weight x.path.segments) f.holds, path_weight as4_path_form f.place.tlv.value, l.longer, l.within)

  kept_few : (most : ℕ) → length p.attributes ≤ most → HasFewNumbers most kept
  kept_few most short = record {
    path = λ r is. omega (
      arith,
      numbers_weigh r.segments,
      ap path_weight_of is,
      rebuilt_weight kept.aggregator kept.as4_aggregator kept.as_path kept.as4_path,
      path_found kept.as_path refl,
      as4_path_found kept.as4_path refl,
      short,
    );
    communities = λ c is.
        let f = communities_first ctx p c is in
        let l = found_lies (λ t. eqb t.tlv.kind 8) p.attributes f.place f.first in
        omega (arith, ap (λ (x : Communities). length x.values) f.holds, not_more ℕ (IsNumber true) (one_number true) (IsNumber-reads true) f.place.tlv.value, l.longer, l.within, short);
    large = λ c is.
        let f = large_first ctx p c is in
        let l = found_lies (λ t. eqb t.tlv.kind 32) p.attributes f.place f.first in
        omega (arith, ap (λ (x : LargeCommunities). length x.values) f.holds, each_once-shorter (triples_of f.place.tlv.value), not_more (List ℕ) IsTriple one_triple IsTriple-reads f.place.tlv.value, l.longer, l.within, short);
  }

pub has_few_numbers : (ctx : Context) (kind : Kind) (body : List ℕ) (a : Attrs) → AreOctets body → attrs_in (out_of ctx (record { kind = kind; body = body })) ≡ Some a → HasFewNumbers (length body - 4) a
has_few_numbers ctx kind body a are is =
    let k = are_kept ctx body a kind is in
    subst (HasFewNumbers (length body - 4)) (sym k.kept)
    (kept_few ctx k.parts (length body - 4) (omega (arith, ap length (parts-body body k.parts are k.whole).octets ∙ length-body k.parts.withdrawn k.parts.attributes k.parts.nlri)))

-- ---- the rows that they give

few_some : {A Row : Type 0} (most : ℕ) (rows : Option A → List Row) → rows None ≡ [] → (x : Option A) → ((a : A) → x ≡ Some a → length (rows (Some a)) ≤ most) → length (rows x) ≤ most
few_some most rows none None some = omega (arith, ap length none)
few_some most rows none (Some a) some = some a refl

module _ (body : List ℕ) (o : Outcome) (are : AreOctets body) (w : IsViewed body o) where
  abbrev most : ℕ
  most = length body - 4

  pub few_in : (a : Attrs) → attrs_in o ≡ Some a → HasFewNumbers most a
  few_in a is = has_few_numbers w.ctx w.kind body a are (sym (ap attrs_in w.outcome) ∙ is)

  module _ (at : ℕ) where
    pub few_numbers : length (number_rows at (attrs_in o)) ≤ most
    few_numbers = few_some most (number_rows at) refl (attrs_in o)
        (λ a is. few_some most (path_rows at) refl (rebuilt a).path (λ r has. omega (arith, rows_count at 0 r.segments, (few_in a is).path r has)))

    pub few_communities : length (community_rows at (attrs_in o)) ≤ most
    few_communities = few_some most (community_rows at) refl (attrs_in o)
        (λ a is. few_some most (communities_told at) refl a.communities (λ c has. omega (arith, length-map c.values (community_row at), (few_in a is).communities c has)))

    pub few_large : length (large_rows at (attrs_in o)) ≤ most
    few_large = few_some most (large_rows at) refl (attrs_in o)
        (λ a is. few_some most (large_told at) refl a.large (λ l has. omega (arith, length-map l.values (large_row at), (few_in a is).large l has)))
