use Rattle.ristulva_c.proofs.Below.{◌≡◌, ◌+◌, length, joined_value, joined_left}
use Rattle.ristulva_c.specs.Prelude.{numbers_in}
use Rattle.ristulva_c.proofs.number_rows.count_path.Given as goal

abbrev pub invariant-path : goal.invariant-path
invariant-path l = l.count + numbers_in (joined_left l.left) ≡ numbers_in (joined_value l.path).segments

abbrev pub decreases-path : goal.decreases-path
decreases-path l = length (joined_left l.left)
