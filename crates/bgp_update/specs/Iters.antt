-- The kept attributes and the notes that iterators have left.
use Rattle.std.specs.Prelude.{List, ◌++◌}
use Rattle.std.specs.List.{flat_map}
use Rattle.bgp_attr.specs.declared.attr.Attr.{Attr}
use Rattle.bgp_update.specs.declared.attr_iter.AttrIter.{AttrIter}
use Rattle.bgp_update.specs.declared.note.Note.{Note}
use Rattle.bgp_update.specs.declared.note_iter.NoteIter.{NoteIter}
use Rattle.bgp_update.specs.declared.slot_iter.SlotIter.{SlotIter}
use Rattle.bgp_update.specs.KeptView.{attrs_with}
use Rattle.bgp_update.specs.MarkIter.{marks_left}
use Rattle.bgp_update.specs.Notes.{mark_notes, missing_notes}
use Rattle.bgp_update.specs.Slots.{slot}
use Rattle.bgp_update.specs.Taken.{kept_of}

abbrev pub attrs_left : AttrIter → List Attr
attrs_left it = kept_of (marks_left it.marks)

-- in the order in which they are written
abbrev pub slots_left : SlotIter → List Attr
slots_left it = flat_map (slot (attrs_with it.kept.now it.others.now)) it.kinds.now

abbrev pub notes_left : NoteIter → List Note
notes_left it = flat_map (mark_notes it.field_at) (marks_left it.marks) ++ missing_notes it.missing
