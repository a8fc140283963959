-- Notes at the offsets of the body as it was received.
use Rattle.std.specs.Prelude.{ℕ, ◌==◌, List, map, if◌then◌else◌}
use Rattle.bgp_text.specs.Below.{Note, flat_map}
use Rattle.bgp_text.specs.NoteLines.{note_line_at}
use Rattle.bgp_text.specs.declared.placed_notes.PlacedNote.{PlacedNote}

-- the offset 0 is that of a missing attribute, and of none that was received
abbrev pub placed_at : (ℕ → ℕ) → ℕ → ℕ
placed_at place at = if at == 0 then 0 else place at

-- each at this offset instead of its own
abbrev pub placed_notes : (ℕ → ℕ) → List Note → List PlacedNote
placed_notes place notes = map (λ n. record { note = n; at = placed_at place n.at }) notes

abbrev pub placed_line : PlacedNote → List ℕ
placed_line p = note_line_at p.at p.note

abbrev pub placed_lines : (ℕ → ℕ) → List Note → List ℕ
placed_lines place notes = flat_map placed_line (placed_notes place notes)
