-- What is accepted of a message: for each type the value that was kept.
use Rattle.std.specs.Prelude.{ℕ, not, ◌&&◌, ◌==◌, nat_lt, List, [], ◌∷◌, Option, if◌then◌else◌}
use Rattle.std.specs.List.{flat_map, find}
use Rattle.bgp_prefix.specs.Prelude.{run_of}
use Rattle.bgp_attr.specs.declared.attr.Attr.{Attr}
use Rattle.bgp_attr.specs.declared.judged.Judged.{Judged}
use Rattle.bgp_attr.specs.declared.opaque.Opaque.{Opaque}
use Rattle.bgp_attr.specs.Prelude.{type_of}
use Rattle.bgp_attr.specs.declared.judged.Judged.TheVariants as judged
use Rattle.bgp_update.specs.declared.attrs.Attrs.{Attrs}
use Rattle.bgp_update.specs.declared.update.Update.{Update}
use Rattle.bgp_update.specs.Fields.{as_opaque, attrs_from, is_opaque}
use Rattle.bgp_update.specs.Parts.{Parts}
use Rattle.bgp_update.specs.Marks.{Mark}

-- what is kept, in order
abbrev pub kept_by : Judged → List Attr
kept_by (judged.Keep a) = a ∷ []
kept_by _ = []

abbrev pub kept_of : List Mark → List Attr
kept_of marks = flat_map (λ m. kept_by m.judged) marks

-- one more attribute of an unrecognised type, inserted by its type
abbrev pub put_rising : Opaque → List Opaque → List Opaque
put_rising o [] = o ∷ []
put_rising o (p ∷ ps) = if nat_lt p.kind o.kind then p ∷ put_rising o ps else o ∷ p ∷ ps

-- ---- the attributes by type

-- the first attribute of a type, where it is recognised: the first is kept, and no field keeps two
abbrev pub first_known : List Attr → ℕ → Option Attr
first_known kept kind = find (λ a. not (is_opaque a) && (type_of a == kind)) kept

-- each inserted by its type among those before
abbrev pub rising_behind : List Opaque → List Opaque → List Opaque
rising_behind there [] = there
rising_behind there (o ∷ os) = rising_behind (put_rising o there) os

abbrev pub attrs_of : List Attr → Attrs
attrs_of kept = attrs_from (first_known kept) (rising_behind [] (flat_map as_opaque kept))

-- no attribute
abbrev pub no_attrs : Attrs
no_attrs = attrs_of []

-- the message with what was kept of its attributes
abbrev pub update_of : Parts → List Mark → Update
update_of p marks = record { withdrawn = (run_of 4 p.withdrawn).0; attrs = attrs_of (kept_of marks); nlri = (run_of 4 p.nlri).0 }
