-- Rows of segments: a path that is written is read back, and what is kept of a path that was read can be written.
use Rattle.bgp_wire.proofs.Std.{◌≡◌, ℕ, suc, ◌+◌, ◌*◌, ◌%◌, ◌^◌, ◌<◌, ◌≤◌, Bool, true, false, not, ◌||◌, cond, eqb, ltb, List, [], ◌∷◌, ◌++◌, length, map, Option, Some, None, refl, sym, ap, ap₂, subst, ◌∙◌, arith, flat_map, list_any, AllByRecursion, or_parts, or_from, le-ltb, ltb-false, eqb-false, length-map, flat_map-append, list_any-append}
use Rattle.std.proofs.lemmas.Bool.{true≢false, ne_eqb}
use Rattle.std.proofs.lemmas.List.{length-append}
use Rattle.bgp_prefix.specs.declared.as_number.AsNumber.{AsNumber}
use Rattle.bgp_wire.specs.Prelude.{AreOctets, Row}
use Rattle.bgp_wire.proofs.OctetLemmas.{AreOctets-front, AreOctets-back}
use Rattle.bgp_wire.proofs.Behinds.{pieces-whole, Row-pieces}
use Rattle.bgp_attr.specs.declared.path.SegKind.{SegKind}
use Rattle.bgp_attr.specs.declared.path.SegKind.TheVariants.{Set, Seq}
use Rattle.bgp_attr.specs.declared.path.Segment.{Segment}
use Rattle.bgp_attr.specs.declared.path.AsPath.{AsPath}
use Rattle.bgp_attr.specs.declared.path_form.PathForm.{PathForm}
use Rattle.bgp_attr.specs.Prelude.{number_width, row_octets, WireSegment, is_known, IsSegment, one_segment, segments_of, as_number, kind_of_segment, segment_kept_as, kept_segment, path_of, segment_fault, path_fault, path_has_zero, IsPath, segment_code, segment_octets, path_octets, any_number, is_above_two_octets, is_zero, is_bad_segment, IsFourOctets, HasPathRanges}
use Rattle.bgp_attr.specs.declared.why.Why.TheVariants as why
use Rattle.bgp_attr.proofs.Readers.{IsSegment-reads}
use Rattle.bgp_attr.proofs.SegmentSteps.{has_zero}
use Rattle.bgp_attr.proofs.NumberRows.{number_of, Fits, Fits-four, Row-numbers, length-row_octets, length-number_row, number_row-small}

-- ---- a segment in octets

abbrev pub wire_of : Segment → WireSegment
wire_of s = record { code = segment_code s.kind; numbers = map number_of s.numbers }

map-back : (ns : List AsNumber) → map as_number (map number_of ns) ≡ ns
map-back [] = refl
map-back (n ∷ ns) = ap (λ (xs : List AsNumber). n ∷ xs) (map-back ns)

map-forth : (ns : List ℕ) → map number_of (map as_number ns) ≡ ns
map-forth [] = refl
map-forth (n ∷ ns) = ap (λ (xs : List ℕ). n ∷ xs) (map-forth ns)

kept-at : (kind : SegKind) (ns : List AsNumber) → kept_segment (record { code = segment_code kind; numbers = map number_of ns }) ≡ record { kind = kind; numbers = ns } ∷ []
kept-at Set ns = ap (λ (xs : List AsNumber). record { kind = Set; numbers = xs } ∷ []) (map-back ns)
kept-at Seq ns = ap (λ (xs : List AsNumber). record { kind = Seq; numbers = xs } ∷ []) (map-back ns)

pub kept_segment-wire_of : (ss : List Segment) → flat_map kept_segment (map wire_of ss) ≡ ss
kept_segment-wire_of [] = refl
kept_segment-wire_of (s ∷ ss) =
    ap (λ (x : List Segment). x ++ flat_map kept_segment (map wire_of ss)) (kept-at s.kind s.numbers) ∙ ap (λ (x : List Segment). s ∷ x) (kept_segment-wire_of ss)

known-at : (form : PathForm) (kind : SegKind) → is_known form (segment_code kind) ≡ true
known-at form Set = refl
known-at form Seq = refl

-- the numbers of each segment fit in their octets
abbrev pub AllFit : Bool → List Segment → Type 0
AllFit wide ss = AllByRecursion (λ s. AllByRecursion (Fits wide) (map number_of s.numbers)) ss

pub segment-spells : (form : PathForm) (s : Segment) → 0 < length s.numbers → AllByRecursion (Fits form.wide) (map number_of s.numbers)
    → IsSegment form (wire_of s) (segment_octets form.wide s)
segment-spells form s some fits =
    let same : length (map number_of s.numbers) ≡ length s.numbers = length-map s.numbers number_of in
    let row : List ℕ = row_octets form.wide (map number_of s.numbers) in
    record {
      behind = length s.numbers ∷ row;
      octets = refl;
      known = known-at form s.kind;
      some = omega arith;
      counted = record {
        row = row;
        octets = ap (λ (k : ℕ). k ∷ row) (sym same);
        spelled = Row-numbers form.wide (map number_of s.numbers) fits;
      };
    }

has_some : (s : Segment) → is_bad_segment s ≡ false → 0 < length s.numbers
has_some s e =
    let p = or_parts (eqb (length s.numbers) 0) (ltb 255 (length s.numbers)) e in
    omega (arith, eqb-false (length s.numbers) 0 p.0)

pub Row-segments : (form : PathForm) (ss : List Segment) → list_any is_bad_segment ss ≡ false → AllFit form.wide ss → Row (IsSegment form) (map wire_of ss) (flat_map (segment_octets form.wide) ss)
Row-segments form [] good fit = refl
Row-segments form (s ∷ ss) good fit =
    let p = or_parts (is_bad_segment s) (list_any is_bad_segment ss) good in
    (segment_octets form.wide s, flat_map (segment_octets form.wide) ss, refl, segment-spells form s (has_some s p.0) fit.0, Row-segments form ss p.1 fit.1)

-- ---- what is written of a path is read back

-- numbers within their ranges fit, also in two octets where none is above those
fit_numbers : (wide : Bool) (ns : List AsNumber) → AllByRecursion (λ n. IsFourOctets n.0) ns → (wide ≡ false → list_any (λ n. is_above_two_octets n.0) ns ≡ false)
    → AllByRecursion (Fits wide) (map number_of ns)
fit_numbers wide [] ranges low = tt
fit_numbers true (n ∷ ns) ranges low = (ranges.0, fit_numbers true ns ranges.1 (λ e. absurd (true≢false e)))
fit_numbers false (n ∷ ns) ranges low =
    let p = or_parts (is_above_two_octets n.0) (list_any (λ (m : AsNumber). is_above_two_octets m.0) ns) (low refl) in
    let small : n.0 ≤ 65535 = ltb-false 65535 n.0 p.0 in
    (omega arith, fit_numbers false ns ranges.1 (λ e. p.1))

abbrev pub has_high : Segment → Bool
has_high s = list_any (λ (n : AsNumber). is_above_two_octets n.0) s.numbers

fit_segments : (wide : Bool) (ss : List Segment) → AllByRecursion (λ s. AllByRecursion (λ n. IsFourOctets n.0) s.numbers) ss → (wide ≡ false → list_any has_high ss ≡ false) → AllFit wide ss
fit_segments wide [] ranges low = tt
fit_segments wide (s ∷ ss) ranges low =
    (fit_numbers wide s.numbers ranges.0 (λ e. (or_parts (has_high s) (list_any has_high ss) (low e)).0), fit_segments wide ss ranges.1 (λ e. (or_parts (has_high s) (list_any has_high ss) (low e)).1))

-- a path that can be written in a form, with numbers of two octets or of four
pub record CanStand (wide : Bool) (p : AsPath) : Type 0 where
  pub ranges : HasPathRanges p
  pub low : wide ≡ false → any_number is_above_two_octets p ≡ false
  pub good : list_any is_bad_segment p.segments ≡ false
  pub nonzero : any_number is_zero p ≡ false

pub path-row : (form : PathForm) (p : AsPath) → CanStand form.wide p → Row (IsSegment form) (map wire_of p.segments) (path_octets form.wide p)
path-row form p c = Row-segments form p.segments c.good (fit_segments form.wide p.segments c.ranges c.low)

pub segments_of-path : (form : PathForm) (p : AsPath) → CanStand form.wide p → segments_of form (path_octets form.wide p) ≡ (map wire_of p.segments, [])
segments_of-path form p c =
    pieces-whole WireSegment (IsSegment form) (one_segment form) (IsSegment-reads form) (map wire_of p.segments) (path_octets form.wide p) (path-row form p c)

pub path_of-octets : (form : PathForm) (p : AsPath) → CanStand form.wide p → path_of form (path_octets form.wide p) ≡ p
path_of-octets form p c =
    ap (λ (q : List WireSegment × List ℕ). record { segments = flat_map kept_segment q.0 }) (segments_of-path form p c)
    ∙ ap (λ (ss : List Segment). record { segments = ss }) (kept_segment-wire_of p.segments)

pub path_fault-octets : (form : PathForm) (p : AsPath) → CanStand form.wide p → path_fault form (path_octets form.wide p) ≡ None
path_fault-octets form p c = ap (λ (q : List WireSegment × List ℕ). segment_fault form q.1) (segments_of-path form p c)

zero-numbers : (ns : List AsNumber) → list_any (λ n. eqb n 0) (map number_of ns) ≡ list_any (λ n. is_zero n.0) ns
zero-numbers [] = refl
zero-numbers (n ∷ ns) = ap (λ (t : Bool). eqb n.0 0 || t) (zero-numbers ns)

zero-segments : (ss : List Segment) → list_any has_zero (map wire_of ss) ≡ list_any (λ s. list_any (λ n. is_zero n.0) s.numbers) ss
zero-segments [] = refl
zero-segments (s ∷ ss) = ap₂ ◌||◌ (zero-numbers s.numbers) (zero-segments ss)

pub path_has_zero-octets : (form : PathForm) (p : AsPath) → CanStand form.wide p → path_has_zero form (path_octets form.wide p) ≡ false
path_has_zero-octets form p c =
    ap (λ (q : List WireSegment × List ℕ). list_any has_zero q.0) (segments_of-path form p c) ∙ zero-segments p.segments ∙ c.nonzero

-- ---- lengths

pub length-segment : (wide : Bool) (s : Segment) → length (segment_octets wide s) ≡ 2 + number_width wide * length s.numbers
length-segment wide s =
    omega (arith, length-row_octets wide (map number_of s.numbers), ap (λ (k : ℕ). number_width wide * k) (length-map s.numbers number_of))

-- with numbers of four octets a path has an even number of octets
even_path : (ss : List Segment) → (k : ℕ) × (length (flat_map (segment_octets true) ss) ≡ 2 * k)
even_path [] = (0, refl)
even_path (s ∷ ss) =
    let later = even_path ss in
    (1 + 2 * length s.numbers + later.0, omega (arith, later.1, length-append (segment_octets true s) (flat_map (segment_octets true) ss), length-segment true s))

pub length-even : (p : AsPath) → length (path_octets true p) % 2 ≡ 0
length-even p = let half = even_path p.segments in omega (arith, half.1)

least_path : (ss : List Segment) → 0 < length ss → list_any is_bad_segment ss ≡ false → 6 ≤ length (flat_map (segment_octets true) ss)
least_path [] some good = absurd (omega arith)
least_path (s ∷ ss) some good =
    let p = or_parts (is_bad_segment s) (list_any is_bad_segment ss) good in
    omega (arith, length-append (segment_octets true s) (flat_map (segment_octets true) ss), length-segment true s, has_some s p.0)

pub length-least : (p : AsPath) → 0 < length p.segments → list_any is_bad_segment p.segments ≡ false → 6 ≤ length (path_octets true p)
length-least p some good = least_path p.segments some good

-- ---- octets without a fault are a row of segments

end_fault : (unknown none : Bool) → cond unknown (Some why.SegmentType) (cond none (Some why.SegmentCount) (Some why.SegmentEnd)) ≡ None → ⊥
end_fault true none e = absurd cc
end_fault false true e = absurd cc
end_fault false false e = absurd cc

pub fault-none : (form : PathForm) (rest : List ℕ) → segment_fault form rest ≡ None → rest ≡ []
fault-none form [] e = refl
fault-none form (code ∷ []) e = absurd cc
fault-none form (code ∷ count ∷ b) e = absurd (end_fault (not (is_known form code)) (eqb count 0) e)

pub fault-row : (form : PathForm) (b : List ℕ) → path_fault form b ≡ None → Row (IsSegment form) (segments_of form b).0 b
fault-row form b e =
    let none : (segments_of form b).1 ≡ [] = fault-none form (segments_of form b).1 e in
    Row-pieces WireSegment (IsSegment form) (one_segment form) (IsSegment-reads form) b (segments_of form b).0 (ap (λ (r : List ℕ). ((segments_of form b).0, r)) none)

pub fault-path : (form : PathForm) (b : List ℕ) → path_fault form b ≡ None → IsPath form (path_of form b) b
fault-path form b e = record { segments = (segments_of form b).0; row = fault-row form b e; kept = refl }

-- and a path that octets spell is the one in them
pub path-only : (form : PathForm) (p : AsPath) (b : List ℕ) → IsPath form p b → p ≡ path_of form b
path-only form p b s =
    let row = pieces-whole WireSegment (IsSegment form) (one_segment form) (IsSegment-reads form) s.segments b s.row in
    ap (λ (ss : List Segment). record { segments = ss }) (s.kept ∙ ap (λ (q : List WireSegment × List ℕ). flat_map kept_segment q.0) (sym row))

-- ---- what is kept of a path can be written, in no more octets than it had

-- segments that can be written in at most n octets
pub record Rewrites (wide : Bool) (ss : List Segment) (n : ℕ) : Type 0 where
  pub ranges : AllByRecursion (λ s. AllByRecursion (λ n. IsFourOctets n.0) s.numbers) ss
  pub low : wide ≡ false → list_any has_high ss ≡ false
  pub good : list_any is_bad_segment ss ≡ false
  pub nonzero : list_any (λ s. list_any (λ n. is_zero n.0) s.numbers) ss ≡ false
  pub shorter : length (flat_map (segment_octets wide) ss) ≤ n

all-append : (P : Segment → Type 0) (xs ys : List Segment) → AllByRecursion P xs → AllByRecursion P ys → AllByRecursion P (xs ++ ys)
all-append P [] ys p q = q
all-append P (x ∷ xs) ys p q = (p.0, all-append P xs ys p.1 q)

Rewrites-append : (wide : Bool) (xs ys : List Segment) (n m : ℕ) → Rewrites wide xs n → Rewrites wide ys m → Rewrites wide (xs ++ ys) (n + m)
Rewrites-append wide xs ys n m p q = record {
  ranges = all-append (λ (s : Segment). AllByRecursion (λ n. IsFourOctets n.0) s.numbers) xs ys p.ranges q.ranges;
  low = λ e. list_any-append has_high xs ys ∙ or_from _ _ (p.low e) (q.low e);
  good = list_any-append is_bad_segment xs ys ∙ or_from _ _ p.good q.good;
  nonzero = list_any-append (λ (s : Segment). list_any (λ n. is_zero n.0) s.numbers) xs ys ∙ or_from _ _ p.nonzero q.nonzero;
  shorter = omega (arith, ap length (flat_map-append (segment_octets wide) xs ys), length-append (flat_map (segment_octets wide) xs) (flat_map (segment_octets wide) ys), p.shorter, q.shorter);
}

Rewrites-none : (wide : Bool) (n : ℕ) → Rewrites wide [] n
Rewrites-none wide n = record { ranges = tt; low = λ e. refl; good = refl; nonzero = refl; shorter = omega arith }

four-octets : (wide : Bool) (ns : List ℕ) → AllByRecursion (Fits wide) ns → AllByRecursion (λ n. IsFourOctets n.0) (map as_number ns)
four-octets wide [] fit = tt
four-octets wide (n ∷ ns) fit = (Fits-four wide n fit.0, four-octets wide ns fit.1)

none-high : (ns : List ℕ) → AllByRecursion (Fits false) ns → list_any (λ n. is_above_two_octets n.0) (map as_number ns) ≡ false
none-high [] fit = refl
none-high (n ∷ ns) fit =
    let small : n < 2 ^ 16 = fit.0 in
    or_from (ltb 65535 n) (list_any (λ (m : AsNumber). is_above_two_octets m.0) (map as_number ns)) (le-ltb 65535 n (omega arith)) (none-high ns fit.1)

low-numbers : (wide : Bool) (ns : List ℕ) → AllByRecursion (Fits wide) ns → wide ≡ false → list_any (λ n. is_above_two_octets n.0) (map as_number ns) ≡ false
low-numbers true ns fit e = absurd (true≢false e)
low-numbers false ns fit e = none-high ns fit

none-zero : (ns : List ℕ) → list_any (λ n. eqb n 0) ns ≡ list_any (λ n. is_zero n.0) (map as_number ns)
none-zero [] = refl
none-zero (n ∷ ns) = ap (λ (t : Bool). eqb n 0 || t) (none-zero ns)

-- one segment, of a type that is kept
rewritten-at : (form : PathForm) (s : WireSegment) (b : List ℕ) → AreOctets b → IsSegment form s b → has_zero s ≡ false → (kind : SegKind)
    → Rewrites form.wide (record { kind = kind; numbers = map as_number s.numbers } ∷ []) (length b)
rewritten-at form s b octets p zeros kind =
    let seg : Segment = record { kind = kind; numbers = map as_number s.numbers } in
    let behind : AreOctets p.behind = λ i. subst AreOctets p.octets octets (suc i) in
    let counted : AreOctets (length s.numbers ∷ (p.counted).row) = subst AreOctets (p.counted).octets behind in
    let row : AreOctets (p.counted).row = λ i. counted (suc i) in
    let few : length s.numbers < 256 = counted 0 in
    let fit : AllByRecursion (Fits form.wide) s.numbers = number_row-small form.wide s.numbers (p.counted).row row (p.counted).spelled in
    let as_many : length (map as_number s.numbers) ≡ length s.numbers = length-map s.numbers as_number in
    let some : 0 < length s.numbers = p.some in
    let wide_row : length (p.counted).row ≡ number_width form.wide * length s.numbers = length-number_row form.wide s.numbers (p.counted).row (p.counted).spelled in
    let whole : length b ≡ 2 + number_width form.wide * length s.numbers = ap length p.octets ∙ ap suc (ap length (p.counted).octets) ∙ omega (arith, wide_row) in
    let again : length (segment_octets form.wide seg ++ []) ≡ 2 + number_width form.wide * length s.numbers =
    length-append (segment_octets form.wide seg) [] ∙ omega (arith, length-segment form.wide seg, ap (λ (k : ℕ). number_width form.wide * k) as_many) in
    record {
      ranges = (four-octets form.wide s.numbers fit, tt);
      low = λ e. or_from _ _ (low-numbers form.wide s.numbers fit e) refl;
      good = or_from _ _ (or_from _ _ (ne_eqb _ 0 (λ (e : length (map as_number s.numbers) ≡ 0). absurd (omega arith))) (le-ltb 255 _ (omega arith))) refl;
      nonzero = or_from _ _ (sym (none-zero s.numbers) ∙ zeros) refl;
      shorter = omega (arith, again, whole);
    }

rewritten-as : (form : PathForm) (s : WireSegment) (b : List ℕ) → AreOctets b → IsSegment form s b → has_zero s ≡ false → (kept : Option SegKind)
    → Rewrites form.wide (segment_kept_as kept s.numbers) (length b)
rewritten-as form s b octets p zeros None = Rewrites-none form.wide (length b)
rewritten-as form s b octets p zeros (Some kind) = rewritten-at form s b octets p zeros kind

rewritten-one : (form : PathForm) (s : WireSegment) (b : List ℕ) → AreOctets b → IsSegment form s b → has_zero s ≡ false → Rewrites form.wide (kept_segment s) (length b)
rewritten-one form s b octets p zeros = rewritten-as form s b octets p zeros (kind_of_segment s.code)

pub row-rewrites : (form : PathForm) (segments : List WireSegment) (b : List ℕ) → AreOctets b → Row (IsSegment form) segments b → list_any has_zero segments ≡ false
    → Rewrites form.wide (flat_map kept_segment segments) (length b)
row-rewrites form [] b octets row zeros = Rewrites-none form.wide (length b)
row-rewrites form (s ∷ segments) b octets row zeros =
    let joined : AreOctets (row.0 ++ row.1) = subst AreOctets row.2 octets in
    let p = or_parts (has_zero s) (list_any has_zero segments) zeros in
    let both = Rewrites-append form.wide (kept_segment s) (flat_map kept_segment segments) (length row.0) (length row.1)
    (rewritten-one form s row.0 (AreOctets-front row.0 row.1 joined) row.3 p.0) (row-rewrites form segments row.1 (AreOctets-back row.0 row.1 joined) row.4 p.1) in
    let whole : length row.0 + length row.1 ≡ length b = sym (ap length row.2 ∙ length-append row.0 row.1) in
    subst (λ (n : ℕ). Rewrites form.wide (kept_segment s ++ flat_map kept_segment segments) n) whole both

-- the path in octets without a fault and without an AS number 0
pub path-rewrites : (form : PathForm) (b : List ℕ) → AreOctets b → path_fault form b ≡ None → path_has_zero form b ≡ false → Rewrites form.wide (path_of form b).segments (length b)
path-rewrites form b octets fault zeros = row-rewrites form (segments_of form b).0 b octets (fault-row form b fault) zeros
