-- Attributes in sequence, by a cursor.
use Rattle.std.specs.Prelude.{◌+◌, ◌≤◌, ℕ, List, length}
use Rattle.bgp_attr.specs.Prelude.{PlacedTlv, tlvs_of, placed_from}
use Rattle.ristulva_c.specs.declared.attributes.Attributes.{Attributes}
use Rattle.ristulva_c.specs.declared.attributes.Attribute.{Attribute}
use Rattle.ristulva_c.specs.Span.{octets_in}
use Rattle.ristulva_c.specs.Prefixes.{between}

-- the cursor's offsets lie in the octets
pub record IsAttributes (octets : List ℕ) (cursor : Attributes) : Type 0 where
  pub in_order : cursor.at ≤ cursor.end
  pub within : cursor.end ≤ length octets

-- the remaining attributes, with their offsets in the octets
abbrev pub attributes_left : List ℕ → Attributes → List PlacedTlv
attributes_left octets cursor = placed_from cursor.at (tlvs_of (between octets cursor.at cursor.end)).0

-- the reported attribute: its octets reach from its flags to the end of its value
abbrev pub attribute_told : List ℕ → Attribute → PlacedTlv
attribute_told octets out = record {
  at = out.at;
  tlv = record { flags = out.flags; kind = out.kind; whole = between octets out.at (out.value.at + out.value.len); value = octets_in out.value octets };
}
