-- The NOTIFICATIONs of one side, as a list in a line.
use Rattle.std.specs.Prelude.{ℕ, Bool, true, false, List, [], ◌∷◌, ◌++◌, codes, if◌then◌else◌}
use Rattle.std.specs.Fmt.{decimal}
use Rattle.bgp_session.specs.declared.side.Side.{Side}
use Rattle.bgp_session.specs.declared.side.Side.TheVariants.{A, B}

abbrev pub side_name : Side → List ℕ
side_name A = codes "a"
side_name B = codes "b"

abbrev pub is_same : Side → Side → Bool
is_same A A = true
is_same A B = false
is_same B A = false
is_same B B = true

-- those that this side sent
abbrev pub own_notes : Side → List (Side × ℕ × ℕ) → List (Side × ℕ × ℕ)
own_notes side [] = []
own_notes side (note ∷ notes) = if is_same note.0 side then note ∷ own_notes side notes else own_notes side notes

-- its code and its subcode
abbrev pub note_text : Side × ℕ × ℕ → List ℕ
note_text note = decimal note.1 ++ (codes "/" ++ decimal note.2)

-- the text before a note
abbrev pub mark_of : Bool → List ℕ
mark_of true = []
mark_of false = codes ","

-- each after a comma
abbrev pub later_notes : List (Side × ℕ × ℕ) → List ℕ
later_notes [] = []
later_notes (note ∷ notes) = (codes "," ++ note_text note) ++ later_notes notes

-- joined by commas: a dash if there is none
abbrev pub notes_text : List (Side × ℕ × ℕ) → List ℕ
notes_text [] = codes "-"
notes_text (note ∷ notes) = note_text note ++ later_notes notes
