-- The first faulty line of a schedule, defined independently of the reader.
use Rattle.std.specs.Prelude.{◌≡◌, ℕ, List, ◌∷◌, ◌++◌, None, Ok}
use Rattle.bgp_session.specs.declared.moves.Move.{Move}
use Rattle.bgp_script.specs.declared.speakers.Speakers.{Speakers}
use Rattle.bgp_script.specs.Lines.{Told}
use Rattle.bgp_script.specs.Pieces.{words_of}
use Rattle.bgp_script.specs.Move.{move_of}
use Rattle.bgp_script.specs.Script.{moves_of}

-- n is the number of the first line that isn't a move: those before it are moves, whatever follows it
pub record IsFirstFault (speakers : Speakers) (lines : List Told) (n : ℕ) : Type 0 where
  pub front : List Told
  pub faulty : Told
  pub later : List Told
  pub all : lines ≡ front ++ (faulty ∷ later)
  pub moves : List Move
  pub are_moves : moves_of speakers front ≡ Ok moves
  pub is_none : move_of speakers (words_of faulty.line) ≡ None
  pub number : n ≡ faulty.number
