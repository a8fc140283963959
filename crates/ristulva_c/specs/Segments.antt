-- The segments of a path in sequence, by a cursor.
use Rattle.std.specs.Prelude.{◌≤◌, ℕ, Bool, List, length}
use Rattle.bgp_attr.specs.Prelude.{numbers_of, WireSegment, segments_of}
use Rattle.ristulva_c.specs.declared.segments.Segments.{Segments}
use Rattle.ristulva_c.specs.declared.segments.PathSegment.{PathSegment}
use Rattle.ristulva_c.specs.Context.{is_set}
use Rattle.ristulva_c.specs.Prefixes.{between}
use Rattle.ristulva_c.specs.Span.{octets_in}

-- the cursor's offsets lie in the octets
pub record IsSegments (octets : List ℕ) (cursor : Segments) : Type 0 where
  pub in_order : cursor.at ≤ cursor.end
  pub within : cursor.end ≤ length octets

-- the segments of octets, by the length of an AS number and by whether segments of confederations are read
abbrev pub path_segments : Bool → Bool → List ℕ → List WireSegment
path_segments wide confederations b = (segments_of (record { wide = wide; confederations = confederations }) b).0

-- the remaining segments
abbrev pub segments_left : List ℕ → Segments → List WireSegment
segments_left octets cursor = path_segments (is_set cursor.wide) (is_set cursor.confederations) (between octets cursor.at cursor.end)

-- the reported segment, with 4-octet AS numbers where they are wide
abbrev pub segment_told : Bool → List ℕ → PathSegment → WireSegment
segment_told wide octets out = record { code = out.kind; numbers = numbers_of wide (octets_in out.numbers octets) }
