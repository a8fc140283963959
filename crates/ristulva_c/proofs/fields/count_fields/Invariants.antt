use Rattle.ristulva_c.proofs.Below.{◌≡◌, ◌+◌, length, fields_left}
use Rattle.ristulva_c.proofs.fields.count_fields.Given as goal

abbrev pub invariant-fields : goal.invariant-fields
invariant-fields l = l.count + length (fields_left l.left) ≡ length (fields_left l.fn.fields)
