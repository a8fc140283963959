-- What the laws say of the fields of a message.
use Rattle.std.specs.Prelude.{◌≡◌, ◌<◌, ◌+◌, ℕ, Bool, true, false, List, [], ◌∷◌, length, take, drop, None}
use Rattle.std.specs.List.{flat_map}
use Rattle.bgp_fields.specs.declared.field.Field.{Field}
use Rattle.bgp_fields.specs.declared.kind.FieldKind.{FieldKind}
use Rattle.bgp_fields.specs.declared.kind.FieldKind.TheVariants.{Afi, Marker, MessageLength, MessageType, Safi, Subtype, Unread}

-- each field begins where the one before it ends and has at least one octet, between these two offsets
abbrev pub Tiles : ℕ → ℕ → List Field → Type 0
Tiles from to [] = from ≡ to
Tiles from to (f ∷ fields) = (f.at ≡ from) × (0 < f.len) × Tiles (f.at + f.len) to fields

-- the field is one that can't be read
abbrev pub is_unread : FieldKind → Bool
is_unread Unread = true
is_unread _ = false

-- no field is
abbrev pub AllRead : List Field → Type 0
AllRead [] = Unit {0}
AllRead (f ∷ fields) = (is_unread f.kind ≡ false) × AllRead fields

-- the octets of a field
abbrev pub octets_in : List ℕ → Field → List ℕ
octets_in octets f = take f.len (drop f.at octets)

-- the fields are the octets: none twice, none left out, in order
pub record AreTheOctets (octets : List ℕ) (fields : List Field) : Type 0 where
  pub placed : Tiles 0 (length octets) fields
  pub joined : flat_map (octets_in octets) fields ≡ octets

-- a field of this offset and length that belongs to no attribute, parameter or capability
abbrev pub lone_field : FieldKind → ℕ → ℕ → Field
lone_field kind at len = record { at = at; len = len; kind = kind; group = None }

-- the fields of a ROUTE-REFRESH's header, and of the four octets after it (RFC 4271, section 4.1; RFC 2918, section 3; RFC 7313, section 3.2)
abbrev pub refresh_row : List Field
refresh_row =
    lone_field Marker 0 16 ∷ (
    lone_field MessageLength 16 2 ∷ (
    lone_field MessageType 18 1 ∷ (
    lone_field Afi 19 2 ∷ (
    lone_field Subtype 21 1 ∷ (
    lone_field Safi 22 1 ∷ [])))))

-- one field of the octets after them, if there are any
abbrev pub refresh_rest : List ℕ → List Field
refresh_rest [] = []
refresh_rest (x ∷ rest) = lone_field Unread 23 (length (x ∷ rest)) ∷ []
