-- The kept attributes of a message by type, while their values are borrowed, and as they are found one after another.
use Rattle.std.specs.Prelude.{◌≡◌, ℕ, Bool, not, ◌||◌, ◌==◌, List, [], map, Option, option_map, slice_index_or}
use Rattle.std.specs.List.{list_any}
use Rattle.std.specs.Option.{option_or}
use Rattle.bgp_open.specs.declared.context.Context.{Context}
use Rattle.bgp_attr.specs.Prelude.{opaque_value, type_row, TlvValue}
use Rattle.bgp_attr.specs.declared.attr.Attr.{Attr}
use Rattle.bgp_attr.specs.declared.opaque.OpaqueView.{OpaqueView}
use Rattle.bgp_attr.specs.declared.opaque.Opaque.{Opaque}
use Rattle.bgp_update.specs.declared.attrs.Attrs.{Attrs}
use Rattle.bgp_update.specs.declared.kept_view.KeptView.{KeptView}
use Rattle.bgp_update.specs.Places.{tlv_placed}
use Rattle.bgp_update.specs.Fields.{attrs_from, is_opaque}
use Rattle.bgp_update.specs.Taken.{first_known}

-- the attribute of each recognised type, and whether there are others
pub record Kept : Type 0 where
  pub known : ℕ → Option Attr
  pub others : Bool

-- without those of unrecognised types
abbrev pub known_of : Attrs → Attrs
known_of a = record a { others = [] }

-- the octets of the attribute of a type, where it is recognised and kept
abbrev pub kept_tlv : KeptView → ℕ → Option TlvValue
kept_tlv k = λ kind. tlv_placed k.field.now (slice_index_or k.places kind 0)

-- the attribute
abbrev pub kept_attr : KeptView → ℕ → Option Attr
kept_attr k = λ kind. option_map (λ t. (type_row k.ctx k.has_nlri t).value) (kept_tlv k kind)

abbrev pub known_value : KeptView → Attrs
known_value k = attrs_from (kept_attr k) []

-- these, and others of unrecognised types
abbrev pub with_others : KeptView → List Opaque → Attrs
with_others kept others = record (known_value kept) { others = others }

abbrev pub attrs_with : KeptView → List OpaqueView → Attrs
attrs_with kept others = with_others kept (map opaque_value others)

abbrev pub kept_value : KeptView → Kept
kept_value k = record { known = kept_attr k; others = k.others }

-- the same, with these octets for each type
abbrev pub kept_with : KeptView → (ℕ → Option TlvValue) → Kept
kept_with k tlv = record { known = λ kind. option_map (λ t. (type_row k.ctx k.has_nlri t).value) (tlv kind); others = k.others }

-- an attribute of a type that is recognised was seen, whether it is kept or not
abbrev pub saw : KeptView → ℕ → Bool
saw k = λ kind. not (slice_index_or k.places kind 0 == 0)

-- the kept attributes are those of a field that is judged in a context
abbrev pub AreOf : KeptView → Context → Bool → List ℕ → Type 0
AreOf k ctx has_nlri field = (k.ctx ≡ ctx) × (k.has_nlri ≡ has_nlri) × (k.field.now ≡ field)

-- these, by type
abbrev pub kept_in : List Attr → Kept
kept_in kept = record { known = first_known kept; others = list_any is_opaque kept }

-- more attributes after those before: the first of a type is kept
abbrev pub kept_behind : Kept → List Attr → Kept
kept_behind k kept = record { known = λ kind. option_or (k.known kind) (first_known kept kind); others = k.others || list_any is_opaque kept }
