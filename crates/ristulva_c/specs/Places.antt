-- The offsets of the attributes of a type in an UPDATE's message (RFC 4271, section 4.3).
use Rattle.std.specs.Prelude.{◌+◌, ◌-◌, ◌==◌, ℕ, Bool, length, Option, Some, None, if◌then◌else◌}
use Rattle.std.specs.List.{find}
use Rattle.bgp_attr.specs.Prelude.{PlacedTlv}
use Rattle.bgp_update.specs.Prelude.{placed_tlvs, Parts}
use Rattle.ristulva_c.specs.declared.span.Span.{Span}
use Rattle.ristulva_c.specs.Span.{no_span}

-- the first attribute of a type: no other of the type is kept (RFC 7606, section 3, item g)
abbrev pub first_of_type : ℕ → Parts → Option PlacedTlv
first_of_type kind p = find (λ q. q.tlv.kind == kind) (placed_tlvs p.attributes)

-- the span of the value of an attribute, in a field that begins at this offset
abbrev pub value_at : ℕ → Option PlacedTlv → Span
value_at field None = no_span
value_at field (Some q) = record { at = field + q.at + (length q.tlv.whole - length q.tlv.value); len = length q.tlv.value }

-- the span of the value of the first attribute of a type: the attributes of a message follow its header of 19 octets, Withdrawn Routes, and
-- two lengths of two octets
abbrev pub value_in : ℕ → Option Parts → Span
value_in kind None = no_span
value_in kind (Some p) = value_at (23 + length p.withdrawn) (first_of_type kind p)

-- the same for an attribute that is kept; for another an empty span at 0
abbrev pub kept_at : Bool → ℕ → Option Parts → Span
kept_at is_kept kind parts = if is_kept then value_in kind parts else no_span
