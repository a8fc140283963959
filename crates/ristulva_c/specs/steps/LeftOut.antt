-- Attributes that are left out by type.
use Rattle.std.specs.Prelude.{ℕ, Bool, false}
use Rattle.bgp_attr.specs.declared.attr.Attr.{Attr}
use Rattle.bgp_attr.specs.declared.attr.Attr.TheVariants as attr

-- of an unrecognised type, and one of these
abbrev pub is_left_out : (ℕ → Bool) → Attr → Bool
is_left_out drops (attr.Opaque o) = drops o.kind
is_left_out drops _ = false
