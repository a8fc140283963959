use Rattle.bgp_text.proofs.Prelude.{◌≡◌, ◌++◌, codes, length, flat_map, string_bytes}
use Rattle.bgp_text.proofs.field_values.put_each.Given as goal

-- the values so far, and those left, are all
abbrev pub invariant-row : goal.invariant-row
invariant-row g l =
    string_bytes l.text ++ flat_map (λ v. codes " " ++ g.T.Short.text v) (g.S.Source.left l.left)
    ≡ string_bytes l.initial.text ++ flat_map (λ v. codes " " ++ g.T.Short.text v) (g.S.Source.left l.fn.values)

abbrev pub decreases-row : goal.decreases-row
decreases-row g l = length (g.S.Source.left l.left)
