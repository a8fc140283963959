-- The lines of fields and notes, field by field.
use Rattle.std.specs.Prelude.{◌||◌}
use Rattle.bgp_text.proofs.Prelude.{◌≡◌, ℕ, Bool, true, false, List, [], ◌∷◌, ◌++◌, Option, None, Some, if◌then◌else◌, refl, ap, sym, ◌∙◌, append_assoc}
use Rattle.bgp_text.proofs.Prelude.{flat_map, Note, row_left, field_line, is_at, is_in, is_of, is_next, note_place, note_reason, noted_line, noted_lines, reason_line, unplaced_line, row_of, note_at}
use Rattle.bgp_text.proofs.Prelude.{noting_lines, plain_line}
use Rattle.std.specs.Iterator.{YieldsFirst}
use Rattle.bgp_text.specs.declared.note_row.NoteRow.{NoteRow}
use Rattle.bgp_text.specs.declared.field_lines.Noting.{Noting}
use Rattle.bgp_fields.specs.declared.field.Field.{Field}

-- where no field is left
pub at_end : (message : List ℕ) (place : ℕ) (notes : List Note) → noted_lines message place notes [] ≡ flat_map unplaced_line notes
unfolding noted_lines
at_end message place notes = refl

-- a field at which a note is reported
pub at_note : (message : List ℕ) (place : ℕ) (first : Option Note) (later : List Note) (n : Note) (f : Field) (fields : List Field)
    → note_at first message f ≡ Some n
    → noted_lines message place (row_of first later) (f ∷ fields) ≡ noted_line message place n f ++ noted_lines message (note_place n) later fields
unfolding noted_lines
at_note message place None later n f fields e = absurd cc
at_note message place (Some m) later n f fields e = at (is_at message m f) e
  where
    at : (b : Bool) → (if b then Some m else None) ≡ Some n
        → (if b then noted_line message place m f ++ noted_lines message (note_place m) later fields
        else field_line (is_of m f || is_in place f.group) message f ++ noted_lines message place (m ∷ later) fields)
        ≡ noted_line message place n f ++ noted_lines message (note_place n) later fields
    at true same = cc
    at false same = absurd cc

-- the note reported at a field is the next one
pub told_is_next : (message : List ℕ) (first : Option Note) (n : Note) (f : Field) → note_at first message f ≡ Some n → is_next first f ≡ is_of n f
told_is_next message None n f e = absurd cc
told_is_next message (Some m) n f e = at (is_at message m f) e
  where
    at : (b : Bool) → (if b then Some m else None) ≡ Some n → is_of m f ≡ is_of n f
    at true same = cc
    at false same = absurd cc

-- a field at which no note is reported
pub at_none : (message : List ℕ) (place : ℕ) (first : Option Note) (later : List Note) (f : Field) (fields : List Field)
    → note_at first message f ≡ None
    → noted_lines message place (row_of first later) (f ∷ fields)
    ≡ field_line (is_next first f || is_in place f.group) message f ++ noted_lines message place (row_of first later) fields
unfolding noted_lines
at_none message place None later f fields e = refl
at_none message place (Some m) later f fields e = at (is_at message m f) e
  where
    at : (b : Bool) → (if b then Some m else None) ≡ None
        → (if b then noted_line message place m f ++ noted_lines message (note_place m) later fields
        else field_line (is_of m f || is_in place f.group) message f ++ noted_lines message place (m ∷ later) fields)
        ≡ field_line (is_of m f || is_in place f.group) message f ++ noted_lines message place (m ∷ later) fields
    at true same = absurd cc
    at false same = refl

-- a line that is appended, and those of the fields after it
added : (old new line rest whole : List ℕ) → new ≡ old ++ line → whole ≡ line ++ rest → new ++ rest ≡ old ++ whole
added old new line rest whole wrote split = ap (λ w. w ++ rest) wrote ∙ append_assoc old line rest ∙ ap (λ w. old ++ w) (sym split)

pub put_none : (message : List ℕ) (noting : Noting) (f : Field) (old new : List ℕ)
    → note_at noting.next message f ≡ None → new ≡ old ++ field_line (is_next noting.next f || is_in noting.place f.group) message f
    → (fields : List Field) → new ++ noting_lines message noting fields ≡ old ++ noting_lines message noting (f ∷ fields)
put_none message noting f old new none wrote fields =
    added old new _ _ _ wrote (at_none message noting.place noting.next (row_left noting.later) f fields none)

-- the row of notes after the first one
pub next_row : (later : NoteRow) (first : Option Note) (rest : NoteRow) → YieldsFirst row_left later first rest → row_of first (row_left rest) ≡ row_left later
next_row later None rest yields = cc
next_row later (Some n) rest yields = cc

pub put_note : (message : List ℕ) (noting : Noting) (n : Note) (first : Option Note) (rest : NoteRow) (f : Field) (old new : List ℕ)
    → note_at noting.next message f ≡ Some n → YieldsFirst row_left noting.later first rest
    → new ≡ old ++ (reason_line f.at (note_reason n) ++ field_line (is_next noting.next f || is_in noting.place f.group) message f)
    → (fields : List Field)
    → new ++ noting_lines message (record { next = first; later = rest; place = note_place n }) fields ≡ old ++ noting_lines message noting (f ∷ fields)
put_note message noting n first rest f old new some yields wrote fields =
    added old new (noted_line message noting.place n f) _ _
    (wrote
    ∙ ap (λ (of : Bool). old ++ (reason_line f.at (note_reason n) ++ field_line (of || is_in noting.place f.group) message f))
    (told_is_next message noting.next n f some))
    (at_note message noting.place noting.next (row_left noting.later) n f fields some
    ∙ ap (λ notes. noted_line message noting.place n f ++ noted_lines message (note_place n) notes fields) (sym (next_row noting.later first rest yields)))

-- where there are no notes
pub without_notes : (message : List ℕ) (fields : List Field) → noted_lines message 0 [] fields ≡ flat_map (plain_line message) fields
without_notes message [] = at_end message 0 []
without_notes message (f ∷ fields) =
    at_none message 0 None [] f fields refl ∙ ap (λ lines. field_line (is_in 0 f.group) message f ++ lines) (without_notes message fields)
