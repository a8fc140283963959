use Rattle.ristulva_c.proofs.Below.{◌≡◌, drop, has_octet}
use Rattle.ristulva_c.specs.Prelude.{types_in, with_types}
use Rattle.ristulva_c.proofs.cleaning.set_of.Given as goal

-- the set and the remaining types are all of them
abbrev pub invariant-types : goal.invariant-types
invariant-types l = with_types (has_octet l.set) (drop l.kind-index l.types) ≡ types_in l.types
