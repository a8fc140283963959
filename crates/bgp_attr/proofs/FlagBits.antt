-- The bits of a flags octet that is written.
use Rattle.std.proofs.Common.{◌≡◌, ◌<◌, Bool, true, false, refl, lit<}
use Rattle.bgp_attr.specs.declared.class.Class.{Class}
use Rattle.bgp_attr.specs.declared.class.Class.TheVariants.{WellKnown, OptionalNonTransitive, OptionalTransitive}
use Rattle.bgp_attr.specs.Prelude.{optional_class, is_optional, is_transitive, is_partial, is_extended, has_class, flags_octet}

pub has_class-flags : (class : Class) (partial extended : Bool) → has_class class (flags_octet class partial extended) ≡ true
has_class-flags WellKnown true true = refl
has_class-flags WellKnown true false = refl
has_class-flags WellKnown false true = refl
has_class-flags WellKnown false false = refl
has_class-flags OptionalNonTransitive true true = refl
has_class-flags OptionalNonTransitive true false = refl
has_class-flags OptionalNonTransitive false true = refl
has_class-flags OptionalNonTransitive false false = refl
has_class-flags OptionalTransitive true true = refl
has_class-flags OptionalTransitive true false = refl
has_class-flags OptionalTransitive false true = refl
has_class-flags OptionalTransitive false false = refl

pub is_partial-flags : (class : Class) (partial extended : Bool) → is_partial (flags_octet class partial extended) ≡ partial
is_partial-flags WellKnown true true = refl
is_partial-flags WellKnown true false = refl
is_partial-flags WellKnown false true = refl
is_partial-flags WellKnown false false = refl
is_partial-flags OptionalNonTransitive true true = refl
is_partial-flags OptionalNonTransitive true false = refl
is_partial-flags OptionalNonTransitive false true = refl
is_partial-flags OptionalNonTransitive false false = refl
is_partial-flags OptionalTransitive true true = refl
is_partial-flags OptionalTransitive true false = refl
is_partial-flags OptionalTransitive false true = refl
is_partial-flags OptionalTransitive false false = refl

pub is_extended-flags : (class : Class) (partial extended : Bool) → is_extended (flags_octet class partial extended) ≡ extended
is_extended-flags WellKnown true true = refl
is_extended-flags WellKnown true false = refl
is_extended-flags WellKnown false true = refl
is_extended-flags WellKnown false false = refl
is_extended-flags OptionalNonTransitive true true = refl
is_extended-flags OptionalNonTransitive true false = refl
is_extended-flags OptionalNonTransitive false true = refl
is_extended-flags OptionalNonTransitive false false = refl
is_extended-flags OptionalTransitive true true = refl
is_extended-flags OptionalTransitive true false = refl
is_extended-flags OptionalTransitive false true = refl
is_extended-flags OptionalTransitive false false = refl

pub flags_octet-small : (class : Class) (partial extended : Bool) → flags_octet class partial extended < 256
flags_octet-small WellKnown true true = lit< tt
flags_octet-small WellKnown true false = lit< tt
flags_octet-small WellKnown false true = lit< tt
flags_octet-small WellKnown false false = lit< tt
flags_octet-small OptionalNonTransitive true true = lit< tt
flags_octet-small OptionalNonTransitive true false = lit< tt
flags_octet-small OptionalNonTransitive false true = lit< tt
flags_octet-small OptionalNonTransitive false false = lit< tt
flags_octet-small OptionalTransitive true true = lit< tt
flags_octet-small OptionalTransitive true false = lit< tt
flags_octet-small OptionalTransitive false true = lit< tt
flags_octet-small OptionalTransitive false false = lit< tt

-- of an optional attribute, transitive or non-transitive
pub is_optional-flags : (transitive partial extended : Bool) → is_optional (flags_octet (optional_class transitive) partial extended) ≡ true
is_optional-flags true true true = refl
is_optional-flags true true false = refl
is_optional-flags true false true = refl
is_optional-flags true false false = refl
is_optional-flags false true true = refl
is_optional-flags false true false = refl
is_optional-flags false false true = refl
is_optional-flags false false false = refl

pub is_transitive-flags : (transitive partial extended : Bool) → is_transitive (flags_octet (optional_class transitive) partial extended) ≡ transitive
is_transitive-flags true true true = refl
is_transitive-flags true true false = refl
is_transitive-flags true false true = refl
is_transitive-flags true false false = refl
is_transitive-flags false true true = refl
is_transitive-flags false true false = refl
is_transitive-flags false false true = refl
is_transitive-flags false false false = refl
