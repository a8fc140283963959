-- The flags octet of an attribute (RFC 4271, section 4.3). Its low four bits have no meaning.
use Rattle.std.specs.Prelude.{ℕ, ◌+◌, ◌*◌, ◌/◌, Bool, ◌==◌, if◌then◌else◌}
use Rattle.std.specs.Int.{bit_at}
use Rattle.bgp_attr.specs.declared.class.Class.{Class}
use Rattle.bgp_attr.specs.declared.class.Class.TheVariants.{WellKnown, OptionalNonTransitive, OptionalTransitive}

abbrev pub is_optional : ℕ → Bool
is_optional flags = bit_at flags 7 == 1

abbrev pub is_transitive : ℕ → Bool
is_transitive flags = bit_at flags 6 == 1

abbrev pub is_partial : ℕ → Bool
is_partial flags = bit_at flags 5 == 1

abbrev pub is_extended : ℕ → Bool
is_extended flags = bit_at flags 4 == 1

-- the Optional and the Transitive bit of a class, as the two highest bits
abbrev pub class_bits : Class → ℕ
class_bits WellKnown = 1
class_bits OptionalNonTransitive = 2
class_bits OptionalTransitive = 3

abbrev pub has_class : Class → ℕ → Bool
has_class class flags = flags / 64 == class_bits class

-- the flags octet that is written: the low four bits are 0
abbrev pub flags_octet : Class → Bool → Bool → ℕ
flags_octet class partial extended = 64 * class_bits class + ((if partial then 32 else 0) + (if extended then 16 else 0))
