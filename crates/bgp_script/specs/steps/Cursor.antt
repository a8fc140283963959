-- The position in a line or among lines: for contracts of functions that aren't public.
use Rattle.std.specs.Prelude.{ℕ, List, [], Option}
use Rattle.std.specs.Option.{option_map_or}
use Rattle.bgp_script.specs.declared.lines.Line.{Line}
use Rattle.bgp_script.specs.Lines.{Told}
use Rattle.bgp_script.specs.Pieces.{pieces_at}

-- the pieces of what is left, if anything
abbrev pub pieces_left : ℕ → Option (List ℕ) → List (List ℕ)
pieces_left mark rest = option_map_or (pieces_at mark) rest []

-- a line as it is passed on
abbrev pub line_value : Line → Told
line_value l = record { number = l.number; line = l.text.now }
