-- AS paths as JSON.
use Rattle.std.specs.Prelude.{ℕ, List, ◌++◌, codes}
use Rattle.bgp_text.specs.Below.{decimal, AsNumber, AsPath, SegKind, Segment}
use Rattle.bgp_text.specs.Json.{quoted, member, listed}

abbrev pub segment_type : SegKind → List ℕ
segment_type SegKind.Set = codes "set"
segment_type SegKind.Seq = codes "sequence"

abbrev pub as_number_json : AsNumber → List ℕ
as_number_json n = decimal n.0

-- the kind of a segment, and its AS numbers
unfoldable pub segment_json : Segment → List ℕ
segment_json s = codes "{\"type\":" ++ (quoted (segment_type s.kind) ++ (member (codes "as") (listed as_number_json) s.numbers ++ codes "}"))

abbrev pub path_json : AsPath → List ℕ
path_json p = listed segment_json p.segments
