-- The AS numbers of paths in rows.
use Rattle.std.specs.Prelude.{◌≡◌, ◌+◌, ℕ, List, [], ◌∷◌, ◌++◌, map, Option, Some, None}
use Rattle.bgp_prefix.specs.declared.as_number.AsNumber.{AsNumber}
use Rattle.bgp_attr.specs.declared.path.AsPath.{AsPath}
use Rattle.bgp_attr.specs.declared.path.SegKind.{SegKind}
use Rattle.bgp_attr.specs.declared.path.SegKind.TheVariants.{Set, Seq}
use Rattle.bgp_attr.specs.declared.path.Segment.{Segment}
use Rattle.bgp_update.specs.Prelude.{rebuilt, Parts}
use Rattle.bgp_update.specs.declared.attrs.Attrs.{Attrs}
use Rattle.bgp_msg.specs.declared.outcome.Outcome.{Outcome}
use Rattle.ristulva_c.specs.declared.number_rows.NumberRow.{NumberRow}
use Rattle.ristulva_c.specs.Facts.{attrs_in}

-- 1 of an AS_SET
abbrev pub set_flag : SegKind → ℕ
set_flag Set = 1
set_flag Seq = 0

-- the row of a number, by the offset of its message and the index of its segment in the path
abbrev pub number_row : ℕ → ℕ → SegKind → AsNumber → NumberRow
number_row message segment kind n = record { message = message; number = n.0; segment = segment; set = set_flag kind; reserved = 0 }

-- those of segments, the first of which has this index
abbrev pub segment_rows : ℕ → ℕ → List Segment → List NumberRow
segment_rows message segment [] = []
segment_rows message segment (s ∷ later) = map (number_row message segment s.kind) s.numbers ++ segment_rows message (segment + 1) later

abbrev pub path_rows : ℕ → Option AsPath → List NumberRow
path_rows message None = []
path_rows message (Some path) = segment_rows message 0 path.segments

-- those of the path that AS_PATH and AS4_PATH give together (RFC 6793, section 4.2.3), of an UPDATE that is accepted
abbrev pub number_rows : ℕ → Option Attrs → List NumberRow
number_rows message None = []
number_rows message (Some a) = path_rows message (rebuilt a).path

-- the rows of a message
abbrev pub GivesNumbers : ℕ → Option Parts → Outcome → List NumberRow → Type 0
GivesNumbers at parts o rows = rows ≡ number_rows at (attrs_in o)
