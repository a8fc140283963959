use Rattle.bgp_text.proofs.Prelude.{◌≡◌, ◌++◌, flat_map, string_bytes, notes_left, notes_value}
use Rattle.bgp_text.specs.NoteLines.{note_line}
use Rattle.bgp_text.proofs.note_lines.put_notes.Given as goal

-- the lines so far, and those of the notes left, are all
abbrev pub invariant-row : goal.invariant-row
invariant-row l =
    string_bytes l.text ++ flat_map note_line (notes_left l.left)
    ≡ string_bytes l.initial.text ++ flat_map note_line (notes_value l.view)
