use Rattle.bgp_text.proofs.Prelude.{◌≡◌, ◌++◌, length, flat_map, string_bytes}
use Rattle.bgp_text.proofs.short.put_row.Given as goal

-- the text so far, and that of the values left, are all
abbrev pub invariant-row : goal.invariant-row
invariant-row g l =
    string_bytes l.text ++ flat_map g.T.Short.text (g.S.Source.left l.left)
    ≡ string_bytes l.initial.text ++ flat_map g.T.Short.text (g.S.Source.left l.fn.values)

abbrev pub decreases-row : goal.decreases-row
decreases-row g l = length (g.S.Source.left l.left)
