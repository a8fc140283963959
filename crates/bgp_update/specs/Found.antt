-- Attributes of unrecognised types, found by their type, where there are some.
use Rattle.std.specs.Prelude.{◌≡◌, ◌==◌, ℕ, List, Option, None, Some}
use Rattle.std.specs.List.{find}
use Rattle.bgp_attr.specs.declared.opaque.Opaque.{Opaque}
use Rattle.bgp_update.specs.declared.by_type.ByType.{ByType}
use Rattle.bgp_update.specs.ByType.{opaque_at}

abbrev pub found_at : Option ByType → ℕ → Option Opaque
found_at None kind = None
found_at (Some t) kind = opaque_at t kind

-- the first of each type is found
abbrev pub IsFound : Option ByType → List Opaque → Type 0
IsFound t os = (kind : ℕ) → found_at t kind ≡ find (λ o. o.kind == kind) os
