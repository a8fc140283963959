-- The offsets of the parts of an UPDATE in its message (RFC 4271, section 4.3).
use Rattle.std.specs.Prelude.{◌≡◌, ◌+◌, ℕ, List, length, Option, Some, None}
use Rattle.bgp_update.specs.Parts as update
use Rattle.ristulva_c.specs.declared.parts.ToldParts.{ToldParts}
use Rattle.ristulva_c.specs.Span.{octets_in, no_span}

-- the length of Withdrawn Routes, the path attributes, and the length of the NLRI field
abbrev pub fields_of : update.Parts → ℕ × List ℕ × ℕ
fields_of p = (length p.withdrawn, p.attributes, length p.nlri)

-- the offsets of the parts: after the header of 19 octets, each but the last after its length of two octets
abbrev pub parts_told : Option update.Parts → ToldParts
parts_told None = record { withdrawn = no_span; attributes = no_span; nlri = no_span }
parts_told (Some p) = record {
  withdrawn = record { at = 21; len = length p.withdrawn };
  attributes = record { at = 23 + length p.withdrawn; len = length p.attributes };
  nlri = record { at = 23 + length p.withdrawn + length p.attributes; len = length p.nlri };
}

-- in a message the octets of the spans are the parts
pub record Lie (message : List ℕ) (p : update.Parts) (told : ToldParts) : Type 0 where
  pub withdrawn : octets_in told.withdrawn message ≡ p.withdrawn
  pub attributes : octets_in told.attributes message ≡ p.attributes
  pub nlri : octets_in told.nlri message ≡ p.nlri
