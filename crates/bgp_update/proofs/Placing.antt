-- An attribute of an unrecognised type, inserted by its type; and what is left where no attribute is of such a type.
use Rattle.bgp_wire.proofs.Std.{◌≡◌, suc, Bool, true, false, cond, ltb, List, [], ◌∷◌, ◌++◌, map, refl, sym, ap, ◌∙◌, true≢false, insert, flat_map, list_any, or_parts}
use Rattle.bgp_attr.specs.Prelude.{opaque_value}
use Rattle.bgp_attr.specs.declared.attr.Attr.{Attr}
use Rattle.bgp_attr.specs.declared.opaque.OpaqueView.{OpaqueView}
use Rattle.bgp_attr.specs.declared.opaque.Opaque.{Opaque}
use Rattle.bgp_attr.specs.declared.attr.Attr.TheVariants as attr
use Rattle.bgp_update.specs.Prelude.{place_in, put_rising, is_opaque, as_opaque, rising_behind}

step : (t : Bool) (o p : OpaqueView) (os : List OpaqueView)
    → map opaque_value (insert os (place_in o.kind (map opaque_value os)) o) ≡ put_rising (opaque_value o) (map opaque_value os)
    → map opaque_value (insert (p ∷ os) (cond t (suc (place_in o.kind (map opaque_value os))) 0) o)
    ≡ cond t (opaque_value p ∷ put_rising (opaque_value o) (map opaque_value os)) (opaque_value o ∷ opaque_value p ∷ map opaque_value os)
step true o p os more = ap (λ (l : List Opaque). opaque_value p ∷ l) more
step false o p os more = refl

pub inserted : (o : OpaqueView) (os : List OpaqueView)
    → map opaque_value (insert os (place_in o.kind (map opaque_value os)) o) ≡ put_rising (opaque_value o) (map opaque_value os)
inserted o [] = refl
inserted o (p ∷ os) = step (ltb p.kind o.kind) o p os (inserted o os)

no_opaque : (a : Attr) → is_opaque a ≡ false → (os : List Opaque) → os ≡ [] → (as_opaque a ++ os) ≡ []
no_opaque (attr.Opaque o) e os none = absurd (true≢false e)
no_opaque a e os none = none

-- where no attribute is of an unrecognised type, the list is empty
pub no_others : (kept : List Attr) → list_any is_opaque kept ≡ false → flat_map as_opaque kept ≡ []
no_others [] e = refl
no_others (a ∷ later) e =
    let parts = or_parts (is_opaque a) (list_any is_opaque later) e in
    no_opaque a parts.0 (flat_map as_opaque later) (no_others later parts.1)

rising_append : (there xs ys : List Opaque) → rising_behind (rising_behind there xs) ys ≡ rising_behind there (xs ++ ys)
rising_append there [] ys = refl
rising_append there (x ∷ xs) ys = rising_append (put_rising x there) xs ys

-- one more attribute, and then the others
pub others_step : (there now all : List Opaque) (a : Attr) (left later : List Attr) → now ≡ rising_behind there (as_opaque a) → left ≡ a ∷ later
    → rising_behind there (flat_map as_opaque left) ≡ all → rising_behind now (flat_map as_opaque later) ≡ all
others_step there now all a left later e f whole =
    ap (λ (n : List Opaque). rising_behind n (flat_map as_opaque later)) e
    ∙ rising_append there (as_opaque a) (flat_map as_opaque later)
    ∙ ap (λ (l : List Attr). rising_behind there (flat_map as_opaque l)) (sym f)
    ∙ whole

pub others_all : (there all : List Opaque) (left : List Attr) → left ≡ [] → rising_behind there (flat_map as_opaque left) ≡ all → there ≡ all
others_all there all left none whole = ap (λ (l : List Attr). rising_behind there (flat_map as_opaque l)) (sym none) ∙ whole
