-- AS paths (RFC 4271, section 4.3; RFC 6793, section 3). A segment is a type, a count, and that number of AS numbers, at least one.
use Rattle.std.specs.Prelude.{◌≡◌, ◌<◌, ℕ, Bool, not, ◌&&◌, ◌||◌, ◌==◌, List, [], ◌∷◌, length, map, Option, None, Some, if◌then◌else◌}
use Rattle.std.specs.List.{flat_map, list_any}
use Rattle.std.specs.Option.{option_or}
use Rattle.bgp_numbers.specs.declared.segment.TheConstants.{SET, SEQUENCE, CONFED_SEQUENCE, CONFED_SET}
use Rattle.bgp_prefix.specs.declared.as_number.AsNumber.{AsNumber}
use Rattle.bgp_wire.specs.Prelude.{when, pieces, BehindCount, behind_count}
use Rattle.bgp_attr.specs.declared.path.SegKind.{SegKind}
use Rattle.bgp_attr.specs.declared.path.SegKind.TheVariants.{Set, Seq}
use Rattle.bgp_attr.specs.declared.path.Segment.{Segment}
use Rattle.bgp_attr.specs.declared.path.AsPath.{AsPath}
use Rattle.bgp_attr.specs.declared.path_form.PathForm.{PathForm}
use Rattle.bgp_attr.specs.declared.why.Why.{Why}
use Rattle.bgp_attr.specs.declared.why.Why.TheVariants as why
use Rattle.bgp_attr.specs.Numbers.{IsNumber, one_number}

-- a segment of any known type: the octet of its type, and its numbers
pub record WireSegment : Type 0 where
  pub code : ℕ
  pub numbers : List ℕ

-- which types of segment are read: those of confederations only in an AS4_PATH
abbrev pub is_known : PathForm → ℕ → Bool
is_known form code = (code == SET) || ((code == SEQUENCE) || (form.confederations && ((code == CONFED_SEQUENCE) || (code == CONFED_SET))))

-- b is exactly the segment
pub record IsSegment (form : PathForm) (s : WireSegment) (b : List ℕ) : Type 0 where
  pub behind : List ℕ
  pub octets : b ≡ s.code ∷ behind
  pub known : is_known form s.code ≡ Bool.true
  pub some : 0 < length s.numbers
  pub counted : BehindCount (IsNumber form.wide) s.numbers behind

abbrev pub segment_of : ℕ → Option (List ℕ × List ℕ) → Option (WireSegment × List ℕ)
segment_of code None = None
segment_of code (Some ([], rest)) = None
segment_of code (Some (n ∷ numbers, rest)) = Some (record { code = code; numbers = n ∷ numbers }, rest)

-- the segment at the front of octets, and what follows it
unfoldable pub one_segment : PathForm → List ℕ → Option (WireSegment × List ℕ)
one_segment form [] = None
one_segment form (code ∷ b) = if is_known form code then segment_of code (behind_count (one_number form.wide) b) else None

-- the segments that octets begin with, and the rest, which begins with none
abbrev pub segments_of : PathForm → List ℕ → List WireSegment × List ℕ
segments_of form b = pieces (one_segment form) b

abbrev pub as_number : ℕ → AsNumber
as_number n = record { 0 = n }

-- the types that are kept: segments of confederations are dropped
abbrev pub kind_of_segment : ℕ → Option SegKind
kind_of_segment code =
    if code == SET then Some Set else (
    if code == SEQUENCE then Some Seq else
    None)

abbrev pub segment_kept_as : Option SegKind → List ℕ → List Segment
segment_kept_as None numbers = []
segment_kept_as (Some kind) numbers = record { kind = kind; numbers = map as_number numbers } ∷ []

-- what is kept of a segment
abbrev pub kept_segment : WireSegment → List Segment
kept_segment s = segment_kept_as (kind_of_segment s.code) s.numbers

-- what is kept of the segments that octets begin with
abbrev pub kept_segments_of : PathForm → List ℕ → List Segment
kept_segments_of form b = flat_map kept_segment (segments_of form b).0

-- the path in octets
abbrev pub path_of : PathForm → List ℕ → AsPath
path_of form b = record { segments = kept_segments_of form b }

-- why no segment is at the front of what is left, unless that is empty
abbrev pub segment_fault : PathForm → List ℕ → Option Why
segment_fault form [] = None
segment_fault form (code ∷ []) = Some why.SegmentEnd
segment_fault form (code ∷ count ∷ b) =
    if not (is_known form code) then Some why.SegmentType else (
    if count == 0 then Some why.SegmentCount else
    Some why.SegmentEnd)

-- the first fault of a path
abbrev pub path_fault : PathForm → List ℕ → Option Why
path_fault form b = segment_fault form (segments_of form b).1

-- an AS number 0 is in a segment, also in one that is dropped (RFC 7607, section 2)
abbrev pub path_has_zero : PathForm → List ℕ → Bool
path_has_zero form b = list_any (λ s. list_any (λ n. n == 0) s.numbers) (segments_of form b).0

-- why a path is malformed: its first fault, or else an AS number 0
abbrev pub why_malformed : PathForm → List ℕ → Option Why
why_malformed form b = option_or (path_fault form b) (when (path_has_zero form b) why.AsZero)
