-- The flags, the type and the length of an attribute, all at once.
use Rattle.std.specs.Prelude.{◌≡◌, ◌+◌, ◌≤◌, ℕ, List, [], ◌∷◌, length, take, drop, Some}
use Rattle.bgp_attr.specs.Prelude.{length_width}
use Rattle.bgp_fields.specs.declared.field.Field.{Field}
use Rattle.bgp_fields.specs.declared.head.Head.{Head}
use Rattle.bgp_fields.specs.declared.kind.FieldKind.TheVariants.{AttributeFlags, AttributeType, AttributeLength}
use Rattle.bgp_fields.specs.Parts.{attribute_len}

-- octets begin with a whole attribute
pub record IsHead (b : List ℕ) (h : Head) : Type 0 where
  pub flags : ℕ
  pub behind : List ℕ
  pub octets : b ≡ flags ∷ h.kind ∷ behind
  pub width : h.width ≡ length_width flags
  pub whole : h.width + attribute_len flags behind ≤ length behind
  pub value : h.value.now ≡ take (attribute_len flags behind) (drop h.width behind)
  pub rest : h.rest.now ≡ drop (attribute_len flags behind) (drop h.width behind)

-- the fields of the head of an attribute that begins at an offset
abbrev pub head_fields : ℕ → ℕ → ℕ → List Field
head_fields at kind width =
    record { at = at; len = 1; kind = AttributeFlags; group = Some (record { at = at; code = kind }) }
    ∷ record { at = at + 1; len = 1; kind = AttributeType; group = Some (record { at = at; code = kind }) }
    ∷ record { at = at + 2; len = width; kind = AttributeLength; group = Some (record { at = at; code = kind }) } ∷ []
