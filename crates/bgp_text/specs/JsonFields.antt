-- What `explain --json` prints for a message: the object that `show --json` prints, with its fields at the end.
use Rattle.std.specs.Prelude.{ℕ, ◌==◌, ◌||◌, Bool, true, false, List, [], ◌∷◌, ◌++◌, map, codes, Option, None, Some, option_map, if◌then◌else◌}
use Rattle.bgp_text.specs.Below.{decimal, Context, Note, Outcome, Fault, Field, Refresh, Span, fields_of, octets_in, refresh_fields}
use Rattle.bgp_text.specs.declared.told.Told.{Told}
use Rattle.bgp_text.specs.declared.told.Wrong.{Wrong}
use Rattle.bgp_text.specs.FieldLines.{field_said, note_reason, reset_reason, overlaps, holds}
use Rattle.bgp_text.specs.FieldNames.{field_name}
use Rattle.bgp_text.specs.Json.{quoted, octets_json, boolean, member, listed, line_end, where_said}
use Rattle.bgp_text.specs.JsonOutcome.{outcome_members}
use Rattle.bgp_text.specs.JsonRefresh.{refresh_members}
use Rattle.bgp_text.specs.Reasons.{is_at, is_in, is_of, note_place}

-- ---- what is reported at each field: a mark, and what is wrong there

-- a field of an UPDATE without a report: those of the next note's attribute, and of the attribute at `place`, are marked
abbrev pub passed_field : ℕ → Note → Field → Told
passed_field place n f = record { field = f; marked = is_of n f || is_in place f.group; wrong = Wrong.Nothing }

-- a field at which a note is reported
abbrev pub noted_field : ℕ → Note → Field → Told
noted_field place n f = record { field = f; marked = is_of n f || is_in place f.group; wrong = Wrong.Noted n }

-- The fields of an UPDATE, with each note at the field where it is reported. The fields of its attribute are marked, and those of the attribute at
-- `place`, whose note was reported.
unfoldable pub noted_fields : List ℕ → ℕ → List Note → List Field → List Told
noted_fields message place notes [] = []
noted_fields message place [] (f ∷ fields) = record { field = f; marked = is_in place f.group; wrong = Wrong.Nothing } ∷ noted_fields message place [] fields
noted_fields message place (n ∷ notes) (f ∷ fields) =
    if is_at message n f
    then noted_field place n f ∷ noted_fields message (note_place n) notes fields
    else passed_field place n f ∷ noted_fields message place (n ∷ notes) fields

-- the notes that are reported at none of the fields: of missing attributes
unfoldable pub unplaced_notes : List ℕ → List Note → List Field → List Note
unplaced_notes message notes [] = notes
unplaced_notes message [] (f ∷ fields) = []
unplaced_notes message (n ∷ notes) (f ∷ fields) =
    if is_at message n f then unplaced_notes message notes fields else unplaced_notes message (n ∷ notes) fields

-- a field of a message that causes a NOTIFICATION of a code and a subcode: the reason, at the field where the octets at fault begin, and marks on
-- these
abbrev pub faulty_field : Option Fault → ℕ → ℕ → Field → Told
faulty_field None code subcode f = record { field = f; marked = false; wrong = Wrong.Nothing }
faulty_field (Some fault) code subcode f = record {
  field = f;
  marked = overlaps fault.span f;
  wrong = if holds fault.span f then Wrong.Answered code subcode fault.cause else Wrong.Nothing;
}

-- ---- as JSON

-- the value of a field, without the space before it
abbrev pub without_space : List ℕ → List ℕ
without_space [] = []
without_space (c ∷ text) = if c == 32 then text else c ∷ text

-- its offset in the message, its length, its octets, and its name
abbrev pub field_members : List ℕ → Field → List ℕ
field_members message f =
    codes "\"offset\":" ++ (decimal f.at ++ (member (codes "length") decimal f.len ++ (member (codes "octets") octets_json (octets_in message f)
    ++ member (codes "name") quoted (field_name f.kind))))

-- a mark, if it has one
abbrev pub marked_member : Bool → List ℕ
marked_member true = member (codes "marked") boolean true
marked_member false = []

-- what is wrong, if anything: what was expected, and by which rule
abbrev pub wrong_member : Wrong → List ℕ
wrong_member Wrong.Nothing = []
wrong_member (Wrong.Noted n) = member (codes "fault") quoted (note_reason n)
wrong_member (Wrong.Answered code subcode cause) = member (codes "fault") quoted (reset_reason code subcode cause)

-- a field as an object
unfoldable pub told_json : List ℕ → Told → List ℕ
told_json message t =
    codes "{" ++ (field_members message t.field ++ (where_said (codes "value") (without_space (field_said message t.field))
    ++ (marked_member t.marked ++ (wrong_member t.wrong ++ codes "}"))))

-- the list of fields
abbrev pub fields_member : List ℕ → List Told → List ℕ
fields_member message fields = member (codes "fields") (listed (told_json message)) fields

-- a note on an attribute that is missing
abbrev pub unplaced_json : Note → List ℕ
unplaced_json n = quoted (note_reason n)

-- the notes that have no field, if there are any
abbrev pub faults_member : List Note → List ℕ
faults_member [] = []
faults_member (n ∷ notes) = member (codes "faults") (listed unplaced_json) (n ∷ notes)

-- the fields of an UPDATE, and the notes that have none
abbrev pub noted_members : List ℕ → List Note → List Field → List ℕ
noted_members message notes fields = fields_member message (noted_fields message 0 notes fields) ++ faults_member (unplaced_notes message notes fields)

-- the fields of a message in a context, with the faults and the marks of the lines that `explain` prints
unfoldable pub explained_members : Context → List ℕ → Option Fault → Outcome → List ℕ
explained_members ctx message fault (Outcome.Took m notes) = noted_members message notes (fields_of ctx message)
explained_members ctx message fault (Outcome.Withdraw routes notes) = noted_members message notes (fields_of ctx message)
explained_members ctx message fault (Outcome.Reset n) = fields_member message (map (faulty_field fault n.code n.subcode) (fields_of ctx message))

-- the octets at fault
abbrev pub span_of : Option Fault → Option Span
span_of fault = option_map (λ f. f.span) fault

-- the line of a message at an offset in the stream and of this length, 0 for a header's fault: what `show --json` prints, and the fields of its
-- octets
abbrev pub explained_json : Context → ℕ → ℕ → List ℕ → Option Fault → Outcome → List ℕ
explained_json ctx place len octets fault o = outcome_members place len (span_of fault) o ++ (explained_members ctx octets fault o ++ line_end)

-- the line of a ROUTE-REFRESH that is accepted: what `show --json` prints, and the fields of its octets
abbrev pub explained_refresh_json : Context → ℕ → ℕ → List ℕ → Refresh → List ℕ
explained_refresh_json ctx place len octets r = refresh_members place len r ++ (noted_members octets [] (refresh_fields ctx octets) ++ line_end)
