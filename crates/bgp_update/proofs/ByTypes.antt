-- Attributes of unrecognised types, each stored at its type.
use Rattle.bgp_wire.proofs.Std.{◌≡◌, ℕ, zero, suc, ◌<◌, Bool, true, false, cond, eqb, ltb, List, [], ◌∷◌, length, get_or, set, replicate, Option, Some, None, refl, sym, ap, ap₂, ◌∙◌, ◌++◌, ◌+◌, arith, flat_map, eqb-false, ltb-true, AllByRecursion}
use Rattle.std.specs.Prelude.{option_map}
use Rattle.std.proofs.lemmas.Bool.{eqb-true, ne_eqb}
use Rattle.std.proofs.lemmas.Grind.{get_or-set_at}
use Rattle.std.proofs.lemmas.List.{get_or-set_other}
use Rattle.bgp_attr.specs.Prelude.{opaque_value}
use Rattle.bgp_attr.specs.declared.opaque.OpaqueView.{OpaqueView}
use Rattle.bgp_attr.specs.declared.opaque.Opaque.{Opaque}
use Rattle.bgp_update.specs.Prelude.{put_rising, types_from, rise}
use Rattle.bgp_update.proofs.Rising.{of_kind, find-by, rise-rises, listed, types-find}

-- where none is stored
pub none_at : (n k : ℕ) → (let none : Option OpaqueView = None in get_or (replicate n none) k none ≡ none)
none_at zero k = refl
none_at (suc n) zero = refl
none_at (suc n) (suc k) = none_at n k

-- of a type that occurs twice the last is found
last-by : (k : ℕ) (o p : Opaque) (ps : List Opaque) (t : Bool) → ltb p.kind o.kind ≡ t → of_kind k (put_rising o ps) ≡ cond (eqb o.kind k) (Some o) (of_kind k ps)
    → of_kind k (cond t (p ∷ put_rising o ps) (o ∷ p ∷ ps)) ≡ cond (eqb o.kind k) (Some o) (cond (eqb p.kind k) (Some p) (of_kind k ps))
last-by k o p ps true lower later =
    let lt : p.kind < o.kind = ltb-true p.kind o.kind lower in
    find-by k o p ps true (ne_eqb p.kind o.kind (λ (e : p.kind ≡ o.kind). absurd (omega (arith, lt, e)))) later
last-by k o p ps false lower later = refl

pub put_last : (k : ℕ) (o : Opaque) (ps : List Opaque) → of_kind k (put_rising o ps) ≡ cond (eqb o.kind k) (Some o) (of_kind k ps)
put_last k o [] = refl
put_last k o (p ∷ ps) = last-by k o p ps (ltb p.kind o.kind) refl (put_last k o ps)

-- one more attribute, stored at its type
pub put_at : (l : List (Option OpaqueView)) (o : OpaqueView) (there : List Opaque) → o.kind < length l → ((k : ℕ) → option_map opaque_value (get_or l k None) ≡ of_kind k there)
    → (k : ℕ) → option_map opaque_value (get_or (set l o.kind (Some o)) k None) ≡ of_kind k (put_rising (opaque_value o) there)
put_at l o there lt old k = by (eqb o.kind k) refl
  where
    by : (t : Bool) → eqb o.kind k ≡ t → option_map opaque_value (get_or (set l o.kind (Some o)) k None) ≡ of_kind k (put_rising (opaque_value o) there)
    by true e =
        ap (option_map opaque_value) (get_or-set_at l o.kind k (Some o) None (sym (eqb-true o.kind k e)) lt)
        ∙ ap (λ (t : Bool). cond t (Some (opaque_value o)) (of_kind k there)) (sym e) ∙ sym (put_last k (opaque_value o) there)
    by false e =
        ap (option_map opaque_value) (get_or-set_other l o.kind k (Some o) None (λ (same : k ≡ o.kind). eqb-false o.kind k e (sym same)))
        ∙ old k ∙ ap (λ (t : Bool). cond t (Some (opaque_value o)) (of_kind k there)) (sym e) ∙ sym (put_last k (opaque_value o) there)

eqb-same : (n : ℕ) → eqb n n ≡ true
eqb-same n = by (eqb n n) refl
  where
    by : (t : Bool) → eqb n n ≡ t → t ≡ true
    by true e = refl
    by false e = absurd (eqb-false n n e refl)

none-some : (o : Opaque) → (let none : Option Opaque = None in none ≡ Some o) → ⊥
none-some o e = absurd cc

-- where no type has one, there is none
pub none_found : (os : List Opaque) → ((k : ℕ) → None ≡ of_kind k os) → os ≡ []
none_found [] none = refl
none_found (o ∷ os) none = absurd (none-some o (none o.kind ∙ ap (λ (t : Bool). cond t (Some o) (of_kind o.kind os)) (eqb-same o.kind)))

-- ---- all that are stored, in the order of their types

by-index : (h : Option OpaqueView → List Opaque) (g : ℕ → List Opaque) (l : List (Option OpaqueView)) (low : ℕ) → ((k : ℕ) → h (get_or l k None) ≡ g (low + k))
    → flat_map h l ≡ flat_map g (types_from low (length l))
by-index h g [] low same = refl
by-index h g (x ∷ l) low same =
    ap₂ (λ (a b : List Opaque). a ++ b)
    (same 0 ∙ ap g (omega arith))
    (by-index h g l (low + 1) (λ (k : ℕ). same (suc k) ∙ ap g (omega arith)))

-- the attribute stored at a type
abbrev pub standing : Option OpaqueView → List Opaque
standing found = listed (option_map opaque_value found)

pub standing-all : (l : List (Option OpaqueView)) (os : List Opaque) → length l ≡ 256 → rise os ≡ true → AllByRecursion (λ o. o.kind < 256) os
    → ((k : ℕ) → option_map opaque_value (get_or l k None) ≡ of_kind k os) → flat_map standing l ≡ os
standing-all l os long rises small at =
    by-index standing (λ k. listed (of_kind k os)) l 0 (λ (k : ℕ). ap listed (at k ∙ ap (λ (j : ℕ). of_kind j os) (omega arith)))
    ∙ ap (λ (n : ℕ). flat_map (λ k. listed (of_kind k os)) (types_from 0 n)) long
    ∙ types-find 256 0 os (rise-rises os rises) small
