-- Words, and other pieces of a line.
use Rattle.std.specs.Prelude.{ℕ, Bool, true, false, ◌==◌, List, [], ◌∷◌, Option, Some, None, bytes_eq, if◌then◌else◌}
use Rattle.std.specs.List.{slice_split}

-- the pieces between marks: one more than there are marks
abbrev pub pieces_at : ℕ → List ℕ → List (List ℕ)
pieces_at mark text = slice_split (λ c. c == mark) text

-- words are separated by one space
abbrev pub words_of : List ℕ → List (List ℕ)
words_of line = pieces_at 32 line

-- ---- the first piece, and those after it

abbrev pub one_piece : List (List ℕ) → Option (List ℕ × List (List ℕ))
one_piece [] = None
one_piece (piece ∷ pieces) = Some (piece, pieces)

-- the pieces after this word
abbrev pub behind : List ℕ → List (List ℕ) → Option (List (List ℕ))
behind word [] = None
behind word (piece ∷ pieces) = if bytes_eq piece word then Some pieces else None

-- whether the first piece is this word, and the pieces after it if it is
abbrev pub one_flag : List ℕ → List (List ℕ) → Bool × List (List ℕ)
one_flag word [] = (false, [])
one_flag word (piece ∷ pieces) = if bytes_eq piece word then (true, pieces) else (false, piece ∷ pieces)

abbrev pub is_none_left : List (List ℕ) → Bool
is_none_left [] = true
is_none_left (piece ∷ pieces) = false

-- a value, if no piece is left
abbrev pub if_done : {A : Type 0} → List (List ℕ) → A → Option A
if_done pieces x = if is_none_left pieces then Some x else None
