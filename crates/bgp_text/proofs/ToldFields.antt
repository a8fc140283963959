-- What is reported at fields, one after another.
use Rattle.std.specs.Prelude.{◌||◌}
use Rattle.std.specs.Iterator.{YieldsFirst}
use Rattle.std.proofs.lemmas.List.{append-nil}
use Rattle.bgp_text.proofs.Prelude.{◌≡◌, ℕ, Bool, true, false, List, [], ◌∷◌, Option, None, Some, map, if◌then◌else◌, refl, ap, sym, ◌∙◌}
use Rattle.bgp_text.proofs.Prelude.{Note, row_left, is_at, is_in, is_next, note_place, row_of, note_at}
use Rattle.bgp_text.proofs.Prelude.{noted_field, passed_field, plain_field, noted_fields, unplaced_notes, noting_fields, noting_left}
use Rattle.bgp_text.specs.declared.note_row.NoteRow.{NoteRow}
use Rattle.bgp_text.specs.declared.field_lines.Noting.{Noting}
use Rattle.bgp_text.specs.declared.told.Told.{Told}
use Rattle.bgp_text.specs.declared.told.Wrong.{Wrong}
use Rattle.bgp_fields.specs.declared.field.Field.{Field}
use Rattle.bgp_text.proofs.FieldLines.{next_row, told_is_next}
use Rattle.bgp_text.specs.JsonFields.{fields_member, noted_members}

-- where no field is left
pub no_fields : (message : List ℕ) (place : ℕ) (notes : List Note) → noted_fields message place notes [] ≡ []
unfolding noted_fields
no_fields message place notes = refl

pub all_left : (message : List ℕ) (notes : List Note) → unplaced_notes message notes [] ≡ notes
unfolding unplaced_notes
all_left message notes = refl

-- where no note is left
pub none_unplaced : (message : List ℕ) (fields : List Field) → unplaced_notes message [] fields ≡ []
unfolding unplaced_notes
none_unplaced message [] = refl
none_unplaced message (f ∷ fields) = refl

pub nothing_left : (message : List ℕ) (noting : Noting) (fields : List Field) → noting.next ≡ None → noting_left message noting fields ≡ []
nothing_left message noting fields none =
    ap (λ (next : Option Note). unplaced_notes message (row_of next (row_left noting.later)) fields) none ∙ none_unplaced message fields

-- ---- a field at which no note is reported

none_told : (message : List ℕ) (place : ℕ) (first : Option Note) (later : List Note) (f : Field) (fields : List Field)
    → note_at first message f ≡ None
    → noted_fields message place (row_of first later) (f ∷ fields)
    ≡ record { field = f; marked = is_next first f || is_in place f.group; wrong = Wrong.Nothing } ∷ noted_fields message place (row_of first later) fields
unfolding noted_fields
none_told message place None later f fields e = refl
none_told message place (Some m) later f fields e = at (is_at message m f) e
  where
    at : (b : Bool) → (if b then Some m else None) ≡ None
        → (if b then noted_field place m f ∷ noted_fields message (note_place m) later fields
        else passed_field place m f ∷ noted_fields message place (m ∷ later) fields)
        ≡ passed_field place m f ∷ noted_fields message place (m ∷ later) fields
    at true same = absurd cc
    at false same = refl

none_left : (message : List ℕ) (first : Option Note) (later : List Note) (f : Field) (fields : List Field)
    → note_at first message f ≡ None
    → unplaced_notes message (row_of first later) (f ∷ fields) ≡ unplaced_notes message (row_of first later) fields
unfolding unplaced_notes
none_left message None later f fields e = sym (none_unplaced message fields)
none_left message (Some m) later f fields e = at (is_at message m f) e
  where
    at : (b : Bool) → (if b then Some m else None) ≡ None
        → (if b then unplaced_notes message later fields else unplaced_notes message (m ∷ later) fields) ≡ unplaced_notes message (m ∷ later) fields
    at true same = absurd cc
    at false same = refl

pub tell_none : (message : List ℕ) (noting : Noting) (f : Field) → note_at noting.next message f ≡ None → (fields : List Field)
    → noting_fields message noting (f ∷ fields)
    ≡ record { field = f; marked = is_next noting.next f || is_in noting.place f.group; wrong = Wrong.Nothing } ∷ noting_fields message noting fields
tell_none message noting f none fields = none_told message noting.place noting.next (row_left noting.later) f fields none

pub leave_none : (message : List ℕ) (noting : Noting) (f : Field) → note_at noting.next message f ≡ None → (fields : List Field)
    → noting_left message noting (f ∷ fields) ≡ noting_left message noting fields
leave_none message noting f none fields = none_left message noting.next (row_left noting.later) f fields none

-- ---- a field at which one is reported

note_told : (message : List ℕ) (place : ℕ) (first : Option Note) (later : List Note) (n : Note) (f : Field) (fields : List Field)
    → note_at first message f ≡ Some n
    → noted_fields message place (row_of first later) (f ∷ fields) ≡ noted_field place n f ∷ noted_fields message (note_place n) later fields
unfolding noted_fields
note_told message place None later n f fields e = absurd cc
note_told message place (Some m) later n f fields e = at (is_at message m f) e
  where
    at : (b : Bool) → (if b then Some m else None) ≡ Some n
        → (if b then noted_field place m f ∷ noted_fields message (note_place m) later fields
        else passed_field place m f ∷ noted_fields message place (m ∷ later) fields)
        ≡ noted_field place n f ∷ noted_fields message (note_place n) later fields
    at true same = cc
    at false same = absurd cc

note_left : (message : List ℕ) (first : Option Note) (later : List Note) (n : Note) (f : Field) (fields : List Field)
    → note_at first message f ≡ Some n
    → unplaced_notes message (row_of first later) (f ∷ fields) ≡ unplaced_notes message later fields
unfolding unplaced_notes
note_left message None later n f fields e = absurd cc
note_left message (Some m) later n f fields e = at (is_at message m f) e
  where
    at : (b : Bool) → (if b then Some m else None) ≡ Some n
        → (if b then unplaced_notes message later fields else unplaced_notes message (m ∷ later) fields) ≡ unplaced_notes message later fields
    at true same = refl
    at false same = absurd cc

pub tell_note : (message : List ℕ) (noting : Noting) (n : Note) (next : Option Note) (rest : NoteRow) (f : Field)
    → note_at noting.next message f ≡ Some n → YieldsFirst row_left noting.later next rest → (fields : List Field)
    → noting_fields message noting (f ∷ fields)
    ≡ record { field = f; marked = is_next noting.next f || is_in noting.place f.group; wrong = Wrong.Noted n }
    ∷ noting_fields message (record { next = next; later = rest; place = note_place n }) fields
tell_note message noting n next rest f some yields fields =
    note_told message noting.place noting.next (row_left noting.later) n f fields some
    ∙ (ap (λ (of : Bool). record { field = f; marked = of || is_in noting.place f.group; wrong = Wrong.Noted n }
    ∷ noted_fields message (note_place n) (row_left noting.later) fields)
    (sym (told_is_next message noting.next n f some))
    ∙ ap (λ (notes : List Note). record { field = f; marked = is_next noting.next f || is_in noting.place f.group; wrong = Wrong.Noted n }
    ∷ noted_fields message (note_place n) notes fields)
    (sym (next_row noting.later next rest yields)))

pub leave_note : (message : List ℕ) (noting : Noting) (n : Note) (next : Option Note) (rest : NoteRow) (f : Field)
    → note_at noting.next message f ≡ Some n → YieldsFirst row_left noting.later next rest → (fields : List Field)
    → noting_left message noting (f ∷ fields) ≡ noting_left message (record { next = next; later = rest; place = note_place n }) fields
leave_note message noting n next rest f some yields fields =
    note_left message noting.next (row_left noting.later) n f fields some
    ∙ ap (λ (notes : List Note). unplaced_notes message notes fields) (sym (next_row noting.later next rest yields))

-- where there are no notes
pub without_notes : (message : List ℕ) (fields : List Field) → noted_fields message 0 [] fields ≡ map plain_field fields
without_notes message [] = no_fields message 0 []
without_notes message (f ∷ fields) =
    none_told message 0 None [] f fields refl ∙ ap (λ (told : List Told). plain_field f ∷ told) (without_notes message fields)

pub plain_members : (message : List ℕ) (fields : List Field) → noted_members message [] fields ≡ fields_member message (map plain_field fields)
plain_members message fields =
    rw (without_notes message fields, none_unplaced message fields) (append-nil (fields_member message (map plain_field fields)))
