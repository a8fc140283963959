-- The segments of a path one after the other, a step at a time.
use Rattle.bgp_wire.proofs.Std.{◌≡◌, ℕ, ◌<◌, Bool, false, ◌||◌, eqb, List, [], ◌∷◌, ◌++◌, length, map, Option, Some, None, sym, ap, ◌∙◌, flat_map, list_any, flat_map-cons}
use Rattle.std.proofs.Math.Bool.{or_assoc}
use Rattle.bgp_wire.proofs.Walks.{shorter, first_then, no_more, same_rest, all_rest}
use Rattle.bgp_prefix.specs.declared.as_number.AsNumber.{AsNumber}
use Rattle.bgp_attr.specs.declared.path.SegKind.{SegKind}
use Rattle.bgp_attr.specs.declared.path_form.PathForm.{PathForm}
use Rattle.bgp_attr.specs.Prelude.{WireSegment, IsSegment, one_segment, segments_of, kept_segment, path_has_zero, as_number, kind_of_segment, segment_kept_as, kept_segments_of}
use Rattle.bgp_attr.proofs.Readers.{IsSegment-reads}

-- a number of the segment is 0
abbrev pub has_zero : WireSegment → Bool
has_zero s = list_any (λ n. eqb n 0) s.numbers

module _ (form : PathForm) (b : List ℕ) where
  pub no_segment : None ≡ one_segment form b → (segments_of form b).0 ≡ []
  no_segment e = no_more WireSegment (IsSegment form) (one_segment form) (IsSegment-reads form) b e

  pub no_segment_rest : None ≡ one_segment form b → (segments_of form b).1 ≡ b
  no_segment_rest e = all_rest WireSegment (IsSegment form) (one_segment form) (IsSegment-reads form) b e

  pub no_zero : None ≡ one_segment form b → path_has_zero form b ≡ false
  no_zero e = ap (list_any has_zero) (no_segment e)

  pub none_kept : None ≡ one_segment form b → flat_map kept_segment (segments_of form b).0 ≡ []
  none_kept e = ap (flat_map kept_segment) (no_segment e)

  module _ (s : WireSegment) (rest : List ℕ) (e : Some (s, rest) ≡ one_segment form b) where
    pub segment_then : (segments_of form b).0 ≡ s ∷ (segments_of form rest).0
    segment_then = first_then WireSegment (IsSegment form) (one_segment form) (IsSegment-reads form) b s rest e

    pub segment_rest : (segments_of form rest).1 ≡ (segments_of form b).1
    segment_rest = same_rest WireSegment (IsSegment form) (one_segment form) (IsSegment-reads form) b s rest e

    pub segment_shorter : length rest < length b
    segment_shorter = shorter WireSegment (IsSegment form) (one_segment form) (IsSegment-reads form) b s rest e

    -- a zero so far, in the first segment or in those after it
    pub zero_then : (so_far found whole : Bool) → found ≡ has_zero s → (so_far || path_has_zero form b) ≡ whole → ((so_far || found) || path_has_zero form rest) ≡ whole
    zero_then so_far found whole e all =
        ap (λ (t : Bool). (so_far || t) || path_has_zero form rest) e
        ∙ or_assoc so_far (has_zero s) (path_has_zero form rest)
        ∙ ap (λ (t : Bool). so_far || t) (sym (ap (list_any has_zero) segment_then))
        ∙ all

    -- what is kept of the path begins with what is kept of its first segment
    pub kept_then : flat_map kept_segment (segments_of form b).0 ≡ kept_segment s ++ flat_map kept_segment (segments_of form rest).0
    kept_then = ap (flat_map kept_segment) segment_then ∙ flat_map-cons kept_segment s (segments_of form rest).0

    -- the first segment is kept as this kind
    pub kept_first : (kind : SegKind) → Some kind ≡ kind_of_segment s.code → (numbers : List AsNumber) → numbers ≡ map as_number s.numbers
        → kept_segments_of form b ≡ record { kind = kind; numbers = numbers } ∷ kept_segments_of form rest
    kept_first kind known numbers are =
        kept_then
        ∙ ap (λ (o : Option SegKind). segment_kept_as o s.numbers ++ kept_segments_of form rest) (sym known)
        ∙ ap (λ (ns : List AsNumber). record { kind = kind; numbers = ns } ∷ kept_segments_of form rest) (sym are)

    -- the first segment is dropped
    pub kept_later : None ≡ kind_of_segment s.code → kept_segments_of form b ≡ kept_segments_of form rest
    kept_later dropped = kept_then ∙ ap (λ (o : Option SegKind). segment_kept_as o s.numbers ++ kept_segments_of form rest) (sym dropped)
