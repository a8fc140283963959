use Rattle.bgp_wire.proofs.Std.{◌≡◌, length, flat_map}
use Rattle.bgp_update.specs.Prelude.{marks_left, mark_notes}
use Rattle.bgp_update.proofs.note_iter.first_note.Given as goal

-- the notes of what is left are all notes
abbrev pub invariant-field : goal.invariant-field
invariant-field l = flat_map (mark_notes l.field_at) (marks_left l.fn.marks) ≡ flat_map (mark_notes l.field_at) (marks_left l.marks)

abbrev pub decreases-field : goal.decreases-field
decreases-field l = length (marks_left l.marks)
