use Rattle.bgp_text.proofs.Prelude.{◌≡◌, ◌++◌, length, flat_map, string_bytes}
use Rattle.bgp_text.specs.Lines.{line_of}
use Rattle.bgp_text.proofs.short.put_lines.Given as goal

-- the lines so far, and those of the values left, are all
abbrev pub invariant-run : goal.invariant-run
invariant-run g l =
    string_bytes l.text ++ flat_map (line_of l.label g.T.Short.text) (g.S.Source.left l.left)
    ≡ string_bytes l.initial.text ++ flat_map (line_of l.label g.T.Short.text) (g.S.Source.left l.fn.values)

abbrev pub decreases-run : goal.decreases-run
decreases-run g l = length (g.S.Source.left l.left)
