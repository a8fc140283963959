use Rattle.bgp_wire.proofs.Std.{◌≡◌, ◌++◌, drop}
use Rattle.std.specs.String.{string_bytes}
use Rattle.bgp_script.specs.NoteList.{own_notes, notes_text}
use Rattle.bgp_script.proofs.NoteLists.{notes_on}
use Rattle.bgp_script.proofs.note_list.put_notes.Given as goal

-- the text and that of the notes that are left are the whole
abbrev pub invariant-notes : goal.invariant-notes
invariant-notes l =
    string_bytes l.text ++ notes_on l.is_first (own_notes l.side (drop l.note-index l.notes)) ≡ string_bytes l.initial.text ++ notes_text (own_notes l.side l.notes)
