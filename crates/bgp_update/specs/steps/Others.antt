-- Attributes of unrecognised types, ascending by type.
use Rattle.std.specs.Prelude.{ℕ, suc, nat_lt, List, [], ◌∷◌, if◌then◌else◌}
use Rattle.bgp_attr.specs.declared.opaque.Opaque.{Opaque}

-- the index of a type: after all lower ones that come first
abbrev pub place_in : ℕ → List Opaque → ℕ
place_in kind [] = 0
place_in kind (o ∷ os) = if nat_lt o.kind kind then suc (place_in kind os) else 0
