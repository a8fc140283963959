use Rattle.bgp_text.proofs.Prelude.{◌≡◌, ◌++◌, length, flat_map, string_bytes, notes_left}
use Rattle.bgp_paths.specs.Prelude.{shifted}
use Rattle.bgp_text.specs.PlacedNotes.{placed_line, placed_notes}
use Rattle.bgp_text.proofs.note_lines.put_placed_notes.Given as goal

-- the lines so far, and those of the notes left, are all
abbrev pub invariant-row : goal.invariant-row
invariant-row l =
    string_bytes l.text ++ flat_map placed_line (placed_notes (shifted l.left.shifts) (notes_left l.left.notes))
    ≡ string_bytes l.initial.text ++ flat_map placed_line (placed_notes (shifted l.fn.notes.shifts) (notes_left l.fn.notes.notes))

abbrev pub decreases-row : goal.decreases-row
decreases-row l = length (placed_notes (shifted l.left.shifts) (notes_left l.left.notes))
