-- Attributes of unrecognised types, found by their type.
use Rattle.std.specs.Prelude.{◌≡◌, ◌==◌, ◌<◌, ℕ, true, List, map, Option, None, option_map, slice_index_or}
use Rattle.std.specs.List.{find, AllByRecursion}
use Rattle.bgp_attr.specs.Prelude.{opaque_value}
use Rattle.bgp_attr.specs.declared.opaque.Opaque.{Opaque}
use Rattle.bgp_attr.specs.declared.opaque.OpaqueView.{OpaqueView}
use Rattle.bgp_update.specs.Written.{rise}
use Rattle.bgp_update.specs.declared.by_type.ByType.{ByType}

-- the attribute stored at a type
abbrev pub opaque_at : ByType → ℕ → Option Opaque
opaque_at t kind = option_map opaque_value (slice_index_or t.of_type kind None)

-- at each type the first of these that has it is stored
abbrev pub IsByType : ByType → List Opaque → Type 0
IsByType t os = (kind : ℕ) → opaque_at t kind ≡ find (λ o. o.kind == kind) os

-- a row of all that are stored, where these are ascending by type
abbrev pub IsRowOf : ByType → List OpaqueView → Type 0
IsRowOf t row = (os : List Opaque) → IsByType t os → rise os ≡ true → AllByRecursion (λ o. o.kind < 256) os → map opaque_value row ≡ os
