-- From a segment to those after it.
use Rattle.ristulva_c.proofs.Below.{◌≡◌, ℕ, ◌+◌, ◌-◌, ◌≤◌, List, [], ◌∷◌, ◌++◌, length, take, drop, Some, sym, ap, ◌∙◌, arith, PathForm, IsNumber, one_number, numbers_of, WireSegment, IsSegment, one_segment, segments_of, IsNumber-reads, IsSegment-reads}
use Rattle.bgp_wire.proofs.Behinds.{pieces-whole}
use Rattle.ristulva_c.specs.declared.segments.Segments.{Segments}
use Rattle.ristulva_c.specs.Prelude.{between, IsSegments}
use Rattle.ristulva_c.proofs.Between.{fits, value_at, pieces_behind}

module _ (form : PathForm) (b field : List ℕ) (old : Segments) (s : WireSegment) (rest : List ℕ) (lies : IsSegments b old) (is : field ≡ between b old.at old.end)
    (e : Some (s, rest) ≡ one_segment form field) where
  first : Some (s, rest) ≡ one_segment form (between b old.at old.end)
  first = e ∙ ap (one_segment form) is

  abbrev found : (front : List ℕ) × (between b old.at old.end ≡ front ++ rest) × IsSegment form s front
  found = (IsSegment-reads form).gives (between b old.at old.end) s rest (sym first)

  abbrev row : List ℕ
  row = found.2.counted.row

  begins : between b old.at old.end ≡ (s.code ∷ length s.numbers ∷ row) ++ rest
  begins = found.1 ∙ ap (λ (x : List ℕ). x ++ rest) (found.2.octets ∙ ap (λ (x : List ℕ). s.code ∷ x) found.2.counted.octets)

  long : old.at + 2 + length row + length rest ≡ old.end
  long = omega (arith, fits b old.at old.end (2 + length row) (s.code ∷ length s.numbers ∷ row) rest lies.in_order lies.within (omega arith) begins)

  pub segment_fits : old.at + 2 + length rest ≤ old.end
  segment_fits = omega (arith, long)

  numbers : numbers_of form.wide row ≡ s.numbers
  numbers = ap (λ (q : List ℕ × List ℕ). q.0) (pieces-whole ℕ (IsNumber form.wide) (one_number form.wide) (IsNumber-reads form.wide) s.numbers row found.2.counted.spelled)

  -- what remains after a segment, by the cursor
  pub segments_behind : (segments_of form (between b old.at old.end)).0
      ≡ record { code = s.code; numbers = numbers_of form.wide (take (old.end - length rest - (old.at + 2)) (drop (old.at + 2) b)) } ∷ (segments_of form (between b (old.end - length rest) old.end)).0
  segments_behind =
      let told : numbers_of form.wide (take (old.end - length rest - (old.at + 2)) (drop (old.at + 2) b)) ≡ s.numbers =
      ap (λ (k : ℕ). numbers_of form.wide (take k (drop (old.at + 2) b))) (let n : old.end - length rest - (old.at + 2) ≡ length row = omega (arith, long) in n)
      ∙ ap (numbers_of form.wide) (value_at b old.at old.end (s.code ∷ length s.numbers ∷ []) row rest lies.in_order lies.within begins) ∙ numbers in
      pieces_behind WireSegment (IsSegment form) (one_segment form) (IsSegment-reads form) b old.at old.end s rest lies.in_order lies.within first (old.end - length rest) (omega (arith, segment_fits))
      ∙ ap (λ (ns : List ℕ). record { code = s.code; numbers = ns } ∷ (segments_of form (between b (old.end - length rest) old.end)).0) (sym told)
