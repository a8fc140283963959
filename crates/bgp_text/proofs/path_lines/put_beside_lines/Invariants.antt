use Rattle.bgp_text.proofs.Prelude.{◌≡◌, ◌++◌, length, flat_map, string_bytes}
use Rattle.bgp_text.specs.PathLines.{beside_line}
use Rattle.bgp_text.proofs.path_lines.put_beside_lines.Given as goal

-- the lines so far, and those of the routes left, are all
abbrev pub invariant-run : goal.invariant-run
invariant-run g l =
    string_bytes l.text ++ flat_map (beside_line l.label g.T.Short.text) (g.S.Source.left l.left)
    ≡ string_bytes l.initial.text ++ flat_map (beside_line l.label g.T.Short.text) (g.S.Source.left l.fn.routes)

abbrev pub decreases-run : goal.decreases-run
decreases-run g l = length (g.S.Source.left l.left)
