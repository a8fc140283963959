-- The lines of a message's fields.
use Rattle.std.specs.Prelude.{ℕ, ◌+◌, ◌&&◌, ◌||◌, nat_lt, nat_le, Bool, false, List, [], ◌∷◌, ◌++◌, Option, None, Some, codes, if◌then◌else◌}
use Rattle.bgp_text.specs.Below.{flat_map, decimal, hex_octet, Notification, Note, attribute_name, subcode_name, Cause, Fault, Field, Span, octets_in}
use Rattle.bgp_text.specs.Details.{code_of, detail_text}
use Rattle.bgp_text.specs.FieldNames.{field_name}
use Rattle.bgp_text.specs.FieldValues.{spaced, value_text}
use Rattle.bgp_text.specs.NoteLines.{why_name}
use Rattle.bgp_text.specs.Reasons.{cause_wanted, is_at, is_in, is_of, note_place, note_wanted}
use Rattle.bgp_text.specs.Sections.{cause_section, note_section}

-- the beginning of a line: marked where a fault is
abbrev pub margin : Bool → List ℕ
margin marked = if marked then codes "  > " else codes "    "

-- the value of a field: by its kind, else by the attribute or the capability that it belongs to
abbrev pub field_said : List ℕ → Field → List ℕ
field_said message f = value_text message f.kind (octets_in message f) ++ detail_text (code_of f.group) f.kind (octets_in message f)

-- a field: its offset in the message, its octets, its name, and its value
unfoldable pub field_text : Bool → List ℕ → Field → List ℕ
field_text marked message f =
    margin marked ++ (decimal f.at ++ (codes " " ++ (flat_map hex_octet (octets_in message f) ++ (codes " " ++ (field_name f.kind
    ++ field_said message f)))))

-- the line of a field
abbrev pub field_line : Bool → List ℕ → Field → List ℕ
field_line marked message f = field_text marked message f ++ 10 ∷ []

-- ---- notes

-- an attribute by name, else by its type
abbrev pub type_text : ℕ → List ℕ → List ℕ
type_text kind [] = codes "type " ++ decimal kind
type_text kind (c ∷ name) = c ∷ name

-- what was expected, and by which rule
abbrev pub wanted_text : List ℕ → List ℕ → List ℕ
wanted_text wanted section = codes ": expected " ++ (wanted ++ (codes " (" ++ (section ++ codes ")")))

-- why an attribute isn't kept, and by which rule
abbrev pub note_reason : Note → List ℕ
note_reason n =
    type_text n.kind (attribute_name n.kind) ++ (codes " " ++ (why_name n.why ++ wanted_text (note_wanted n.kind n.why) (note_section n.kind n.why)))

-- the beginning of a reason's line: an offset in the message
abbrev pub reason_place : ℕ → List ℕ
reason_place at = codes "  ! " ++ (decimal at ++ codes " ")

-- the line of a reason
abbrev pub reason_line : ℕ → List ℕ → List ℕ
reason_line at reason = reason_place at ++ (reason ++ 10 ∷ [])

-- a note on an attribute that is missing
abbrev pub unplaced_line : Note → List ℕ
unplaced_line n = codes "  ! " ++ (note_reason n ++ 10 ∷ [])

-- a field at which a note is reported
abbrev pub noted_line : List ℕ → ℕ → Note → Field → List ℕ
noted_line message place n f = reason_line f.at (note_reason n) ++ field_line (is_of n f || is_in place f.group) message f

-- The lines of fields, with each note above the field where it is reported. The fields of its attribute are marked, and those of the attribute at
-- `place`, whose note was reported; notes that are left have no field.
unfoldable pub noted_lines : List ℕ → ℕ → List Note → List Field → List ℕ
noted_lines message place notes [] = flat_map unplaced_line notes
noted_lines message place [] (f ∷ fields) = field_line (is_in place f.group) message f ++ noted_lines message place [] fields
noted_lines message place (n ∷ notes) (f ∷ fields) =
    if is_at message n f
    then noted_line message place n f ++ noted_lines message (note_place n) notes fields
    else field_line (is_of n f || is_in place f.group) message f ++ noted_lines message place (n ∷ notes) fields

-- ---- resets

-- the code and the subcode of a NOTIFICATION, and its name
abbrev pub answer_text : ℕ → ℕ → List ℕ
answer_text code subcode = decimal code ++ (codes "/" ++ (decimal subcode ++ spaced (subcode_name code subcode)))

-- the NOTIFICATION, what was expected, and by which rule
abbrev pub reset_reason : ℕ → ℕ → Cause → List ℕ
reset_reason code subcode cause = answer_text code subcode ++ wanted_text (cause_wanted cause subcode) (cause_section cause)

-- some of the field's octets are of the span
abbrev pub overlaps : Span → Field → Bool
overlaps span f = nat_lt f.at (span.at + span.len) && nat_lt span.at (f.at + f.len)

-- the span begins in the field
abbrev pub holds : Span → Field → Bool
holds span f = nat_le f.at span.at && nat_lt span.at (f.at + f.len)

-- the lines of a field of a message that causes a NOTIFICATION: the reason, above the field where the octets at fault begin, and marks on these
abbrev pub faulty_line : List ℕ → Option Fault → Notification → Field → List ℕ
faulty_line message None n f = field_line false message f
faulty_line message (Some fault) n f =
    (if holds fault.span f then reason_line fault.span.at (reset_reason n.code n.subcode fault.cause) else []) ++ field_line (overlaps fault.span f) message f
