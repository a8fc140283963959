-- The lines of AS paths.
use Rattle.std.specs.Prelude.{ℕ, List, [], ◌∷◌, ◌++◌, codes}
use Rattle.bgp_text.specs.Below.{flat_map, decimal, AsNumber, AsPath, SegKind, Segment}

abbrev pub kind_name : SegKind → List ℕ
kind_name SegKind.Set = codes "set"
kind_name SegKind.Seq = codes "seq"

-- an AS number after a space
abbrev pub number_text : AsNumber → List ℕ
number_text n = codes " " ++ decimal n.0

-- a segment after a space: the word for its kind, and its numbers
abbrev pub segment_text : Segment → List ℕ
segment_text s = (codes " " ++ kind_name s.kind) ++ flat_map number_text s.numbers

abbrev pub segments_text : List Segment → List ℕ
segments_text [] = codes " -"
segments_text (s ∷ segments) = flat_map segment_text (s ∷ segments)

-- a path after a space: a dash where it is empty, else its segments
unfoldable pub path_text : AsPath → List ℕ
path_text p = segments_text p.segments

abbrev pub path_line : List ℕ → AsPath → List ℕ
path_line label p = label ++ (path_text p ++ 10 ∷ [])
