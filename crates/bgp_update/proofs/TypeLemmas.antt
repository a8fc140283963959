-- The order of the types has each type once, and what an attribute's type implies.
use Rattle.bgp_wire.proofs.Std.{◌≡◌, ℕ, zero, suc, ◌+◌, ◌≤◌, Bool, true, false, not, ◌||◌, ◌&&◌, cond, eqb, List, [], ◌∷◌, Option, refl, ap, ◌∙◌, arith, filter, find, list_any, AllByRecursion, both_ways, or_parts, or_from, or_right, not-true}
use Rattle.std.proofs.lemmas.Bool.{ne_eqb}
use Rattle.bgp_attr.specs.declared.attr.Attr.{Attr}
use Rattle.bgp_attr.specs.Prelude.{is_recognised, type_of, is_misnamed}
use Rattle.bgp_numbers.specs.declared.attribute.TheConstants.{MP_REACH_NLRI, MP_UNREACH_NLRI}
use Rattle.bgp_wire.specs.Prelude.{also, none_of_them}
use Rattle.bgp_update.specs.Prelude.{carries_routes, is_opaque, present, types_from, canonical_order}
use Rattle.bgp_update.proofs.Rising.{NoneTwice}

-- ---- the order

fresh-by : (test : ℕ → Bool) (low n : ℕ) (seen : ℕ → Bool) (t : Bool) → test low ≡ t → ((k : ℕ) → low ≤ k → test k ≡ true → seen k ≡ false)
    → ((more : ℕ → Bool) → ((k : ℕ) → low + 1 ≤ k → test k ≡ true → more k ≡ false) → NoneTwice more (filter test (types_from (low + 1) n)))
    → NoneTwice seen (cond t (low ∷ filter test (types_from (low + 1) n)) (filter test (types_from (low + 1) n)))
fresh-by test low n seen true e new later =
    (new low (omega arith) e, later (also low seen) (λ (k : ℕ) (le : low + 1 ≤ k) f. or_from (eqb k low) (seen k) (ne_eqb k low (λ (g : k ≡ low). absurd (omega arith))) (new k (omega arith) f)))
fresh-by test low n seen false e new later = later seen (λ (k : ℕ) (le : low + 1 ≤ k) f. new k (omega arith) f)

-- ascending types have none twice, also where a test leaves some out
pub filtered-fresh : (test : ℕ → Bool) (n low : ℕ) (seen : ℕ → Bool) → ((k : ℕ) → low ≤ k → test k ≡ true → seen k ≡ false) → NoneTwice seen (filter test (types_from low n))
filtered-fresh test zero low seen new = tt
filtered-fresh test (suc n) low seen new = fresh-by test low n seen (test low) refl new (filtered-fresh test n (low + 1))

carrying : (k : ℕ) → not (carries_routes k) ≡ true → (also MP_UNREACH_NLRI (also MP_REACH_NLRI none_of_them)) k ≡ false
carrying k e =
    let p = or_parts (eqb k MP_REACH_NLRI) (eqb k MP_UNREACH_NLRI) (not-true (carries_routes k) e) in
    or_from (eqb k MP_UNREACH_NLRI) (eqb k MP_REACH_NLRI || false) p.1 (or_from (eqb k MP_REACH_NLRI) false p.0 refl)

order-by : (n : ℕ) → NoneTwice none_of_them (MP_REACH_NLRI ∷ MP_UNREACH_NLRI ∷ filter (λ kind. not (carries_routes kind)) (types_from 0 n))
order-by n = (refl, (refl, filtered-fresh (λ kind. not (carries_routes kind)) n 0 (also MP_UNREACH_NLRI (also MP_REACH_NLRI none_of_them)) (λ k le e. carrying k e)))

pub order-fresh : NoneTwice none_of_them canonical_order
unfolding canonical_order
order-fresh = order-by 256

-- none of them is seen a second time
pub fresh-none : (k : ℕ) (seen : ℕ → Bool) (ks : List ℕ) → seen k ≡ true → NoneTwice seen ks → list_any (λ j. eqb j k) ks ≡ false
fresh-none k seen [] e none = refl
fresh-none k seen (j ∷ ks) e none =
    or_from (eqb j k) (list_any (λ i. eqb i k) ks)
    (ne_eqb j k (λ (same : j ≡ k). both_ways (seen j) none.0 (ap seen same ∙ e)))
    (fresh-none k (also j seen) ks (or_right (eqb k j) (seen k) e) none.1)

-- where fewer types are seen, none is twice either
pub fresh-fewer : (seen fewer : ℕ → Bool) (ks : List ℕ) → ((k : ℕ) → seen k ≡ false → fewer k ≡ false) → NoneTwice seen ks → NoneTwice fewer ks
fresh-fewer seen fewer [] less none = tt
fresh-fewer seen fewer (j ∷ ks) less none =
    (less j none.0, fresh-fewer (also j seen) (also j fewer) ks (λ k e. (let p = or_parts (eqb k j) (seen k) e in or_from (eqb k j) (fewer k) p.0 (less k p.1))) none.1)

abbrev pub in_order : ℕ → Bool
in_order k = list_any (λ j. eqb j k) canonical_order

-- ---- the type of an attribute

-- an unrecognised type differs from each recognised one
pub other_kind : (k recognised : ℕ) → is_recognised recognised ≡ true → is_recognised k ≡ false → eqb k recognised ≡ false
other_kind k recognised e f = ne_eqb k recognised (λ (same : k ≡ recognised). both_ways (is_recognised k) f (ap is_recognised same ∙ e))

-- an attribute of this type, which is recognised
abbrev pub is_of : ℕ → Attr → Bool
is_of kind x = not (is_opaque x) && eqb (type_of x) kind

abbrev pub Named : List Attr → Type 0
Named xs = AllByRecursion (λ x. is_misnamed x ≡ false) xs

abbrev pub OfType : ℕ → List Attr → Type 0
OfType kind xs = AllByRecursion (λ x. type_of x ≡ kind) xs

-- ---- the first of a type

-- the attribute, where there is one
abbrev pub at_most_one : Option Attr → List Attr
at_most_one o = present (λ x. x) o

abbrev pub first_of_type : ℕ → List Attr → List Attr
first_of_type kind xs = at_most_one (find (λ x. eqb (type_of x) kind) xs)
