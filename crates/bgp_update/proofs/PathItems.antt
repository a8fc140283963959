-- The items of a path in octets are no more than these octets, and the first items are read segment by segment.
use Rattle.bgp_wire.proofs.Std.{◌≡◌, ℕ, suc, ◌+◌, ◌-◌, ◌*◌, ◌<◌, ◌≤◌, Bool, true, false, eqb, List, [], ◌∷◌, ◌++◌, length, get_or, drop, Option, Some, None, refl, sym, ap, ap₂, ◌∙◌, append_assoc, arith, flat_map, length-map, flat_map-cons, at_drop_more, cond-false}
use Rattle.std.proofs.lemmas.Bool.{ne_eqb}
use Rattle.std.proofs.lemmas.List.{length-append}
use Rattle.std.proofs.lemmas.List.Sums.{sum_by-append, sum_by-cons}
use Rattle.bgp_wire.specs.Prelude.{Row}
use Rattle.bgp_wire.proofs.Pieces.{Splits-pieces}
use Rattle.bgp_attr.specs.declared.path.SegKind.{SegKind}
use Rattle.bgp_attr.specs.declared.path.SegKind.TheVariants.{Set, Seq}
use Rattle.bgp_attr.specs.declared.path.Segment.{Segment}
use Rattle.bgp_attr.specs.declared.path_form.PathForm.{PathForm}
use Rattle.bgp_attr.specs.Prelude.{number_width, WireSegment, IsSegment, one_segment, segments_of, kept_segment, segment_kept_as, kind_of_segment, kept_segments_of, as_number}
use Rattle.bgp_attr.proofs.Readers.{IsSegment-reads}
use Rattle.bgp_attr.proofs.NumberRows.{length-number_row}
use Rattle.bgp_update.specs.Prelude.{items_in, items_of, front_by, lead}

-- ---- no more items than octets

kept_items : (kind : Option SegKind) (numbers : List ℕ) → 0 < length numbers → items_of (segment_kept_as kind numbers) ≤ length numbers
kept_items None numbers some = omega arith
kept_items (Some Set) numbers some = omega arith
kept_items (Some Seq) numbers some = omega (arith, length-map numbers as_number)

at_least : (wide : Bool) (n len : ℕ) → len ≡ number_width wide * n → n ≤ len
at_least true n len e = omega (arith, e)
at_least false n len e = omega (arith, e)

row_items : (form : PathForm) (ss : List WireSegment) (b : List ℕ) → Row (IsSegment form) ss b → items_of (flat_map kept_segment ss) ≤ length b
row_items form [] b row = omega arith
row_items form (s ∷ ss) b row =
    let p = row.3 in
    let numbers : length s.numbers ≤ length (p.counted).row = at_least form.wide _ _ (length-number_row form.wide s.numbers (p.counted).row (p.counted).spelled) in
    let front : length row.0 ≡ suc (suc (length (p.counted).row)) = ap length p.octets ∙ ap suc (ap length (p.counted).octets) in
    let both : items_of (flat_map kept_segment (s ∷ ss)) ≡ items_of (kept_segment s) + items_of (flat_map kept_segment ss) =
    ap items_of (flat_map-cons kept_segment s ss) ∙ sum_by-append items_in (kept_segment s) (flat_map kept_segment ss) in
    let first : items_of (kept_segment s) ≤ length s.numbers = kept_items (kind_of_segment s.code) s.numbers p.some in
    omega (arith, both, first, numbers, front, row_items form ss row.1 row.4, ap length row.2, length-append row.0 row.1)

pub items_within : (form : PathForm) (b : List ℕ) → items_of (kept_segments_of form b) ≤ length b
items_within form b =
    let s = Splits-pieces WireSegment (IsSegment form) (one_segment form) (IsSegment-reads form) b in
    omega (arith, row_items form (segments_of form b).0 s.row s.spelled, ap length s.whole, length-append s.row (segments_of form b).1)

-- ---- the first items

pub no_lead : (segments : List Segment) → lead 0 segments ≡ []
no_lead [] = refl
no_lead (s ∷ segments) = refl

-- what is collected and the lead of what is left, with one more segment
pub lead_step : (xs : List Segment) (i k n left : ℕ) (s : Segment) (now new whole : List Segment) → i < length xs → s ≡ get_or xs i s → 0 < k → new ≡ now ++ front_by k s.kind s.numbers → left ≡ k - n → n ≡ items_in s
    → now ++ lead k (drop i xs) ≡ whole → new ++ lead left (drop (i + 1) xs) ≡ whole
lead_step xs i k n left s now new whole lt is some more less of_s e =
    let rest = drop (i + 1) xs in
    let are : drop i xs ≡ s ∷ rest = at_drop_more (λ (ys : List Segment). ys) xs i s lt ∙ ap (λ (x : Segment). x ∷ rest) (sym is) in
    let first : lead k (s ∷ rest) ≡ front_by k s.kind s.numbers ++ lead (k - items_in s) rest = cond-false (eqb k 0) [] (front_by k s.kind s.numbers ++ lead (k - items_in s) rest) (ne_eqb k 0 (λ (z : k ≡ 0). omega arith)) in
    ap₂ (λ (b : List Segment) (m : ℕ). b ++ lead m rest) more (less ∙ ap (λ (m : ℕ). k - m) of_s)
    ∙ append_assoc now (front_by k s.kind s.numbers) (lead (k - items_in s) rest)
    ∙ ap (λ (b : List Segment). now ++ b) (sym (ap (lead k) are ∙ first)) ∙ e

-- the items so far and those that are left, with one more segment
pub items_step : (all so_far n : ℕ) (left later : List Segment) (s : Segment) → so_far + items_of left ≡ all → left ≡ s ∷ later → n ≡ items_in s → (so_far + n) + items_of later ≡ all
items_step all so_far n left later s e are is = omega (arith, e, ap items_of are ∙ sum_by-cons items_in s later, is)
