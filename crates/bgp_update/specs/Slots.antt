-- The attributes of a message in the order in which they are written: MP_REACH_NLRI, MP_UNREACH_NLRI (RFC 7606, section 5.1), and
-- then all others, ascending by type.
use Rattle.std.specs.Prelude.{ℕ, zero, suc, ◌+◌, not, ◌==◌, List, [], ◌∷◌}
use Rattle.std.specs.List.{flat_map, filter, find}
use Rattle.bgp_numbers.specs.declared.attribute.TheConstants.{MP_REACH_NLRI, MP_UNREACH_NLRI}
use Rattle.bgp_attr.specs.declared.attr.Attr.{Attr}
use Rattle.bgp_attr.specs.Prelude.{entry_of}
use Rattle.bgp_attr.specs.declared.attr.Attr.TheVariants as attr
use Rattle.bgp_update.specs.declared.attrs.Attrs.{Attrs}
use Rattle.bgp_update.specs.Fields.{present, slots}
use Rattle.bgp_update.specs.Marks.{carries_routes}

-- the attribute of a type: at most one
unfoldable pub slot : Attrs → ℕ → List Attr
slot a kind = entry_of kind (slots a) (present attr.Opaque (find (λ o. o.kind == kind) a.others))

-- n types, ascending from one
abbrev pub types_from : ℕ → ℕ → List ℕ
types_from kind zero = []
types_from kind (suc n) = kind ∷ types_from (kind + 1) n

-- the order of the types
unfoldable pub canonical_order : List ℕ
canonical_order = MP_REACH_NLRI ∷ MP_UNREACH_NLRI ∷ filter (λ kind. not (carries_routes kind)) (types_from 0 256)

-- the attributes in that order
abbrev pub attr_list : Attrs → List Attr
attr_list a = flat_map (slot a) canonical_order
