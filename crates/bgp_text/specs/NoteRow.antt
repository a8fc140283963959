-- Notes at the offsets of the body as it was received.
use Rattle.std.specs.Prelude.{ℕ, nat_lt, List, map, Option, None, Some, if◌then◌else◌}
use Rattle.bgp_paths.specs.declared.places.PathShifts.{PathShifts}
use Rattle.bgp_paths.specs.Prelude.{shifted}
use Rattle.bgp_text.specs.Below.{Note, notes_left}
use Rattle.bgp_text.specs.declared.note_row.NoteRow.{NoteRow}
use Rattle.bgp_text.specs.PlacedNotes.{placed_at}

-- an offset in two octets, as each of a body is
abbrev pub in_two_octets : ℕ → ℕ
in_two_octets at = if nat_lt at 65536 then at else 65535

abbrev pub received_at : (ℕ → ℕ) → ℕ → ℕ
received_at place at = in_two_octets (placed_at place at)

-- a note at the offset that its own is as received
abbrev pub note_received : (ℕ → ℕ) → Note → Note
note_received place n = record n { at = received_at place n.at }

abbrev pub notes_received : (ℕ → ℕ) → List Note → List Note
notes_received place notes = map (note_received place) notes

-- ---- as the code keeps them

-- where the body has path identifiers, each note at its offset with them
abbrev pub note_by : Option PathShifts → Note → Note
note_by None n = n
note_by (Some shifts) n = note_received (shifted shifts) n

abbrev pub notes_by : Option PathShifts → List Note → List Note
notes_by None notes = notes
notes_by (Some shifts) notes = notes_received (shifted shifts) notes

-- those that are left
abbrev pub row_left : NoteRow → List Note
row_left row = notes_by row.shifts (notes_left row.notes)
