-- A script: two speakers and the moves of a schedule.
use Rattle.std.specs.Prelude.{ℕ, List, [], ◌∷◌, Option, Some, None, Result, Ok, Err, codes}
use Rattle.bgp_open.specs.Prelude.{Settings}
use Rattle.bgp_session.specs.declared.moves.Move.{Move}
use Rattle.bgp_script.specs.declared.script.Script.{Script}
use Rattle.bgp_script.specs.declared.speakers.Speakers.{Speakers}
use Rattle.bgp_script.specs.Lines.{Told, Left, left_behind, next_told}
use Rattle.bgp_script.specs.Pieces.{words_of}
use Rattle.bgp_script.specs.Speaker.{speaker_of}
use Rattle.bgp_script.specs.Move.{move_of}

-- the second step, applied to the result of the first, or the number of the faulty line
infixl 10 ◌>>=◌
abbrev pub ◌>>=◌ : {A B : Type 0} → Result A ℕ → (A → Result B ℕ) → Result B ℕ
Ok x >>= f = f x
Err n >>= f = Err n

-- a value of a line, or that line's number
abbrev pub at_line : {A : Type 0} → ℕ → Option A → Result A ℕ
at_line n None = Err n
at_line n (Some x) = Ok x

-- the speaker of the next line, and the lines after it
abbrev pub next_speaker : List ℕ → Left → Result (Settings × Left) ℕ
next_speaker side left = do
  next ← next_told left
  speaker ← at_line next.0.number (speaker_of side (words_of next.0.line))
  Ok (speaker, next.1)

-- each line is a move
abbrev pub moves_of : Speakers → List Told → Result (List Move) ℕ
moves_of speakers [] = Ok []
moves_of speakers (t ∷ ts) = do
  first ← at_line t.number (move_of speakers (words_of t.line))
  later ← moves_of speakers ts
  Ok (first ∷ later)

-- the script of a text, or the number of its lowest faulty line
unfoldable pub script_of : List ℕ → Result Script ℕ
script_of text = do
  a ← next_speaker (codes "a") (left_behind 0 text)
  b ← next_speaker (codes "b") a.1
  moves ← moves_of (record { a = a.0; b = b.0 }) b.1.told
  Ok (record { a = a.0; b = b.0; moves = moves })
