-- The moves of lines, one after another.
use Rattle.std.proofs.Common.{ℕ, List, ◌++◌, Result, Ok, Err}
use Rattle.bgp_session.specs.declared.moves.Move.{Move}

-- moves, and those of later lines
abbrev pub behind_moves : List Move → Result (List Move) ℕ → Result (List Move) ℕ
behind_moves found (Ok later) = Ok (found ++ later)
behind_moves found (Err n) = Err n
