-- Attributes of types that aren't recognised, which may also be stored by type.
use Rattle.std.specs.Prelude.{◌≡◌, ◌==◌, ℕ, List, Option, None, Some}
use Rattle.std.specs.List.{find}
use Rattle.bgp_attr.specs.declared.opaque.Opaque.{Opaque}
use Rattle.bgp_update.specs.declared.by_type.ByType.{ByType}
use Rattle.bgp_update.specs.ByType.{opaque_at}

-- the attribute of a type is searched for in the list, or is stored at its type
abbrev pub sorted_at : Option ByType → List Opaque → ℕ → Option Opaque
sorted_at None os kind = find (λ o. o.kind == kind) os
sorted_at (Some t) os kind = opaque_at t kind

-- either way it is found
abbrev pub AreSorted : Option ByType → List Opaque → Type 0
AreSorted t os = (kind : ℕ) → sorted_at t os kind ≡ find (λ o. o.kind == kind) os
