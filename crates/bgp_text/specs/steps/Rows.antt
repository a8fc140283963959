-- A row whose first value was removed, the lines of fields by such a row of notes, and octets that are printed piece by piece.
use Rattle.std.specs.Prelude.{◌≡◌, ◌<◌, ℕ, Bool, false, List, [], ◌∷◌, ◌++◌, length, Option, None, Some, if◌then◌else◌}
use Rattle.bgp_text.specs.Below.{Note, Field}
use Rattle.bgp_text.specs.NoteRow.{row_left}
use Rattle.bgp_text.specs.declared.field_lines.Noting.{Noting}
use Rattle.bgp_text.specs.declared.told.Told.{Told}
use Rattle.bgp_text.specs.declared.told.Wrong.{Wrong}
use Rattle.bgp_text.specs.FieldLines.{field_line, noted_lines}
use Rattle.bgp_text.specs.JsonFields.{noted_fields, unplaced_notes}
use Rattle.bgp_text.specs.Reasons.{is_at, is_in, is_of}

abbrev pub row_of : {A : Type 0} → Option A → List A → List A
row_of None later = []
row_of (Some first) later = first ∷ later

-- the first note of a row, if it is reported at a field
abbrev pub note_at : Option Note → List ℕ → Field → Option Note
note_at None message f = None
note_at (Some n) message f = if is_at message n f then Some n else None

-- the field is of the attribute that it is about
abbrev pub is_next : Option Note → Field → Bool
is_next None f = false
is_next (Some n) f = is_of n f

-- the lines of the fields that are left
abbrev pub noting_lines : List ℕ → Noting → List Field → List ℕ
noting_lines message noting fields = noted_lines message noting.place (row_of noting.next (row_left noting.later)) fields

-- what is reported at them
abbrev pub noting_fields : List ℕ → Noting → List Field → List Told
noting_fields message noting fields = noted_fields message noting.place (row_of noting.next (row_left noting.later)) fields

-- the notes that are reported at none of them
abbrev pub noting_left : List ℕ → Noting → List Field → List Note
noting_left message noting fields = unplaced_notes message (row_of noting.next (row_left noting.later)) fields

-- what is reported at a field of a message without notes
abbrev pub plain_field : Field → Told
plain_field f = record { field = f; marked = is_in 0 f.group; wrong = Wrong.Nothing }

-- the line of such a field
abbrev pub plain_line : List ℕ → Field → List ℕ
plain_line message f = field_line (is_in 0 f.group) message f

-- the first piece of octets was printed, and the text of the rest is left; or there was none
abbrev pub PrintsFirst : (List ℕ → List ℕ) → List ℕ → List ℕ → List ℕ → Option (List ℕ) → Type 0
PrintsFirst text_of old new octets None = (new ≡ old) × (text_of octets ≡ [])
PrintsFirst text_of old new octets (Some rest) = (length rest < length octets) × (new ++ text_of rest ≡ old ++ text_of octets)
