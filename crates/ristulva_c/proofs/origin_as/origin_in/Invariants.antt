use Rattle.ristulva_c.proofs.Below.{◌≡◌, length, joined_value, joined_left}
use Rattle.ristulva_c.specs.Prelude.{origin_in, origin_behind}
use Rattle.ristulva_c.proofs.origin_as.origin_in.Given as goal

-- what the remaining segments end in, or else those so far, is what all end in
abbrev pub invariant-path : goal.invariant-path
invariant-path l = origin_behind l.last (joined_left l.left) ≡ origin_in (joined_value l.path).segments

abbrev pub decreases-path : goal.decreases-path
decreases-path l = length (joined_left l.left)
