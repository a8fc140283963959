-- The lines of a text.
use Rattle.std.specs.Prelude.{ℕ, ◌+◌, Bool, true, ◌==◌, List, [], ◌∷◌, length, Result, Ok, Err, if◌then◌else◌}
use Rattle.std.specs.List.{onto_first}

-- the lines, without the LF that ends each: the last one may lack it
abbrev pub lines_of : List ℕ → List (List ℕ)
lines_of [] = []
lines_of (c ∷ text) = if c == 10 then [] ∷ lines_of text else onto_first c (lines_of text)

-- an empty line, or one that begins with `#`
abbrev pub is_skipped : List ℕ → Bool
is_skipped [] = true
is_skipped (c ∷ line) = c == 35

-- a line that isn't skipped
pub record Told : Type 0 where
  pub number : ℕ
  pub line : List ℕ

-- the lines that aren't skipped, where the first line has the number n
abbrev pub told_from : ℕ → List (List ℕ) → List Told
told_from n [] = []
told_from n (line ∷ lines) = if is_skipped line then told_from (n + 1) lines else (record { number = n; line = line } ∷ told_from (n + 1) lines)

-- the lines that are left, and the number of the line after the last
pub record Left : Type 0 where
  pub told : List Told
  pub after : ℕ

-- all lines after the first n
abbrev pub left_behind : ℕ → List ℕ → Left
left_behind n text = record { told = told_from (n + 1) (lines_of text); after = n + length (lines_of text) + 1 }

-- the first line and those after it: the number of the line after the last if there is none
abbrev pub first_told : ℕ → List Told → Result (Told × Left) ℕ
first_told after [] = Err after
first_told after (t ∷ ts) = Ok (t, record { told = ts; after = after })

abbrev pub next_told : Left → Result (Told × Left) ℕ
next_told left = first_told left.after left.told
