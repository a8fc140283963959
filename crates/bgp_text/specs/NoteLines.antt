-- The lines of notes.
use Rattle.std.specs.Prelude.{ℕ, List, [], ◌∷◌, ◌++◌, codes}
use Rattle.bgp_text.specs.Below.{decimal, Why, Note}

abbrev pub why_name : Why → List ℕ
why_name Why.Flags = codes "Flags"
why_name Why.Length = codes "Length"
why_name Why.Value = codes "Value"
why_name Why.SegmentType = codes "SegmentType"
why_name Why.SegmentCount = codes "SegmentCount"
why_name Why.SegmentEnd = codes "SegmentEnd"
why_name Why.Repeated = codes "Repeated"
why_name Why.External = codes "External"
why_name Why.FourOctet = codes "FourOctet"
why_name Why.Family = codes "Family"
why_name Why.Unneeded = codes "Unneeded"
why_name Why.Emptied = codes "Emptied"
why_name Why.Cut = codes "Cut"
why_name Why.Missing = codes "Missing"
why_name Why.AsZero = codes "AsZero"

-- the offset of an attribute in the body, its type, and why it isn't kept
abbrev pub note_line_at : ℕ → Note → List ℕ
note_line_at at n = codes "  note " ++ (decimal at ++ (codes " " ++ (decimal n.kind ++ (codes " " ++ (why_name n.why ++ 10 ∷ [])))))

abbrev pub note_line : Note → List ℕ
note_line n = note_line_at n.at n
