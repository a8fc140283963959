use Rattle.bgp_text.proofs.Prelude.{◌≡◌, length, fields_left, noting_left}
use Rattle.bgp_text.proofs.told.behind_fields.Given as goal

abbrev pub invariant-fields : goal.invariant-fields
invariant-fields l = noting_left l.message l.noting (fields_left l.left) ≡ noting_left l.message l.fn.noting (fields_left l.fn.fields)

abbrev pub decreases-fields : goal.decreases-fields
decreases-fields l = length (fields_left l.left)
