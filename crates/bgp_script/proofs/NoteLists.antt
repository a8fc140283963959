-- The notes of a side, one after another.
use Rattle.std.proofs.Common.{ℕ, Bool, true, false, List}
use Rattle.bgp_session.specs.declared.side.Side.{Side}
use Rattle.bgp_script.specs.NoteList.{later_notes, notes_text}

-- the text of notes, where none or some were written before
abbrev pub notes_on : Bool → List (Side × ℕ × ℕ) → List ℕ
notes_on true notes = notes_text notes
notes_on false notes = later_notes notes
