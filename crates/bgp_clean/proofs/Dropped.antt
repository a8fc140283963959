-- An UPDATE without the unrecognised attributes that are left out: it can be written where the UPDATE can, and is no longer.
use Rattle.bgp_clean.proofs.Prelude.{◌≡◌, ◌⊎◌, inl, inr, ℕ, ◌+◌, ◌<◌, ◌≤◌, Bool, true, false, not, ◌&&◌, cond, eqb, List, [], ◌∷◌, ◌++◌, length, Option, Some}
use Rattle.bgp_clean.proofs.Prelude.{None, refl, sym, ap, subst, ◌∙◌, arith, flat_map, filter, list_any, AllByRecursion, both_ways, cond-false, or_parts}
use Rattle.bgp_clean.proofs.Prelude.{or_from, not-false, not_from_true, flat_map-append, ne_eqb, length-append, Context, Attr, Opaque, is_recognised}
use Rattle.bgp_clean.proofs.Prelude.{entry_of, canonical, run_octets, is_too_wide, is_as4, is_empty, has_as_zero, stands_twice, HasRanges, Attrs, Update}
use Rattle.bgp_clean.proofs.Prelude.{CanBeWritten, present, slots, slot, canonical_order, attr_list, attributes_octets, is_out_of_place, rise}
use Rattle.bgp_clean.proofs.Prelude.{has_bad_others, any_attr, HasUpdateRanges, length-body, all-none, none-all, all-carried, other_slot, slot-at, IsAccepted}
use Rattle.bgp_clean.proofs.Prelude.{valid-accepted, accepted-valid, cleaned_attrs, cleaned_update}
use Rattle.bgp_update.proofs.Rising.{of_kind, RisesFrom, rise-rises, rises-rise}

-- ---- filtered lists

module _ {A : Type 0} (test : A → Bool) where
  filter-all : (P : A → Type 0) (xs : List A) → AllByRecursion P xs → AllByRecursion P (filter test xs)
  filter-all P [] all = tt
  filter-all P (x ∷ xs) all = by (test x) (filter-all P xs all.1)
    where
      by : (t : Bool) → AllByRecursion P (filter test xs) → AllByRecursion P (cond t (x ∷ filter test xs) (filter test xs))
      by true rest = (all.0, rest)
      by false rest = rest

  filter-again : (xs : List A) → filter test (filter test xs) ≡ filter test xs
  filter-again [] = refl
  filter-again (x ∷ xs) = by (test x) refl (filter-again xs)
    where
      by : (t : Bool) → test x ≡ t → filter test (filter test xs) ≡ filter test xs
          → filter test (cond t (x ∷ filter test xs) (filter test xs)) ≡ cond t (x ∷ filter test xs) (filter test xs)
      by true e same = ap (λ (t : Bool). cond t (x ∷ filter test (filter test xs)) (filter test (filter test xs))) e ∙ ap (λ (ys : List A). x ∷ ys) same
      by false e same = same

-- ---- two tables that differ in the value for all other numbers

entry-two : {A : Type 0} (R : A → A → Type 0) (kind : ℕ) (d e : A) → ((x : A) → R x x) → R d e → (rows : List (ℕ × A)) → R (entry_of kind rows d) (entry_of kind rows e)
entry-two R kind d e same rest [] = rest
entry-two {A = A} R kind d e same rest (row ∷ rows) = by (eqb kind row.0) (entry-two R kind d e same rest rows)
  where
    by : (t : Bool) → R (entry_of kind rows d) (entry_of kind rows e) → R (cond t row.1 (entry_of kind rows d)) (cond t row.1 (entry_of kind rows e))
    by true later = same row.1
    by false later = later

-- the same attributes, or none
abbrev pub IsSameOrNone : List Attr → List Attr → Type 0
IsSameOrNone xs ys = (xs ≡ ys) ⊎ (xs ≡ [])

none-or-all : (P : Attr → Type 0) (xs ys : List Attr) → IsSameOrNone xs ys → AllByRecursion P ys → AllByRecursion P xs
none-or-all P xs ys (inl same) all = subst (λ (zs : List Attr). AllByRecursion P zs) (sym same) all
none-or-all P xs ys (inr none) all = subst (λ (zs : List Attr). AllByRecursion P zs) (sym none) tt

none-or-shorter : (f : Attr → List ℕ) (xs ys : List Attr) → IsSameOrNone xs ys → length (flat_map f xs) ≤ length (flat_map f ys)
none-or-shorter f xs ys (inl same) = omega (arith, ap (λ (zs : List Attr). length (flat_map f zs)) same)
none-or-shorter f xs ys (inr none) = omega (arith, ap (λ (zs : List Attr). length (flat_map f zs)) none)

-- ---- attributes of types that are left out

module _ (drops : ℕ → Bool) where
  abbrev stays : Opaque → Bool
  stays o = not (drops o.kind)

  find-stays : (k : ℕ) → drops k ≡ false → (os : List Opaque) → of_kind k (filter stays os) ≡ of_kind k os
  find-stays k e [] = refl
  find-stays k e (o ∷ os) = by (drops o.kind) refl (find-stays k e os)
    where
      by : (d : Bool) → drops o.kind ≡ d → of_kind k (filter stays os) ≡ of_kind k os
          → of_kind k (cond (not d) (o ∷ filter stays os) (filter stays os)) ≡ cond (eqb o.kind k) (Some o) (of_kind k os)
      by true f later =
          later
          ∙ sym (cond-false (eqb o.kind k) (Some o) (of_kind k os) (ne_eqb o.kind k (λ (same : o.kind ≡ k). both_ways (drops k) e (ap drops (sym same) ∙ f))))
      by false f later = ap (λ (x : Option Opaque). cond (eqb o.kind k) (Some o) x) later

  find-dropped : (k : ℕ) → drops k ≡ true → (os : List Opaque) → of_kind k (filter stays os) ≡ None
  find-dropped k e [] = refl
  find-dropped k e (o ∷ os) = by (drops o.kind) refl (find-dropped k e os)
    where
      by : (d : Bool) → drops o.kind ≡ d → of_kind k (filter stays os) ≡ None → of_kind k (cond (not d) (o ∷ filter stays os) (filter stays os)) ≡ None
      by true f later = later
      by false f later =
          cond-false (eqb o.kind k) (Some o) (of_kind k (filter stays os)) (ne_eqb o.kind k (λ (same : o.kind ≡ k). both_ways (drops k) (ap drops (sym same) ∙ f) e))
          ∙ later

  other-by : (k : ℕ) (os : List Opaque) (d : Bool) → drops k ≡ d
      → IsSameOrNone (present (λ (o : Opaque). Attr.Opaque o) (of_kind k (filter stays os))) (present (λ (o : Opaque). Attr.Opaque o) (of_kind k os))
  other-by k os true e = inr (ap (λ (x : Option Opaque). present (λ (o : Opaque). Attr.Opaque o) x) (find-dropped k e os))
  other-by k os false e = inl (ap (λ (x : Option Opaque). present (λ (o : Opaque). Attr.Opaque o) x) (find-stays k e os))

  -- of each type, the former attribute, or none
  dropped-slot : (a : Attrs) (k : ℕ) → IsSameOrNone (slot (cleaned_attrs drops a) k) (slot a k)
  dropped-slot a k =
      subst (λ (xs : List Attr). IsSameOrNone xs (slot a k)) (sym (slot-at (cleaned_attrs drops a) k))
      (subst (λ (xs : List Attr). IsSameOrNone (entry_of k (slots a) (other_slot (cleaned_attrs drops a) k)) xs) (sym (slot-at a k))
      (entry-two IsSameOrNone k (other_slot (cleaned_attrs drops a) k) (other_slot a k) (λ xs. inl refl) (other-by k a.others (drops k) refl) (slots a)))

  pub dropped-all : (P : Attr → Type 0) (a : Attrs) → AllByRecursion P (attr_list a) → AllByRecursion P (attr_list (cleaned_attrs drops a))
  dropped-all P a all =
      all-carried P P (slot a) (slot (cleaned_attrs drops a)) canonical_order
      (λ k here. none-or-all P (slot (cleaned_attrs drops a) k) (slot a k) (dropped-slot a k) here) all

  dropped-none : (test : Attr → Bool) (a : Attrs) → list_any test (attr_list a) ≡ false → list_any test (attr_list (cleaned_attrs drops a)) ≡ false
  dropped-none test a none = all-none test (attr_list (cleaned_attrs drops a)) (dropped-all (λ x. test x ≡ false) a (none-all test (attr_list a) none))

  shorter-by : (f : Attr → List ℕ) (a : Attrs) (ks : List ℕ)
      → length (flat_map f (flat_map (slot (cleaned_attrs drops a)) ks)) ≤ length (flat_map f (flat_map (slot a) ks))
  shorter-by f a [] = omega arith
  shorter-by f a (k ∷ ks) =
      let xs : List Attr = slot (cleaned_attrs drops a) k in
      let ys : List Attr = slot a k in
      let more : List Attr = flat_map (slot (cleaned_attrs drops a)) ks in
      let others : List Attr = flat_map (slot a) ks in
      let e : length (flat_map f (xs ++ more)) ≡ length (flat_map f xs) + length (flat_map f more) =
      ap length (flat_map-append f xs more) ∙ length-append (flat_map f xs) (flat_map f more) in
      let g : length (flat_map f (ys ++ others)) ≡ length (flat_map f ys) + length (flat_map f others) =
      ap length (flat_map-append f ys others) ∙ length-append (flat_map f ys) (flat_map f others) in
      omega (arith, e, g, none-or-shorter f xs ys (dropped-slot a k), shorter-by f a ks)

  dropped-shorter : (ctx : Context) (a : Attrs) → length (attributes_octets ctx (cleaned_attrs drops a)) ≤ length (attributes_octets ctx a)
  dropped-shorter ctx a = shorter-by (canonical ctx) a canonical_order

  -- ---- the types of those that are kept are in ascending order

  lower : (low next : ℕ) (os : List Opaque) → low ≤ next → RisesFrom next os → RisesFrom low os
  lower low next [] le rises = tt
  lower low next (o ∷ os) le rises = let first : next ≤ o.kind = rises.0 in (omega arith, rises.1)

  filter-rises : (low : ℕ) (os : List Opaque) → RisesFrom low os → RisesFrom low (filter stays os)
  filter-rises low [] rises = tt
  filter-rises low (o ∷ os) rises = by (stays o) (filter-rises (o.kind + 1) os rises.1)
    where
      by : (t : Bool) → RisesFrom (o.kind + 1) (filter stays os) → RisesFrom low (cond t (o ∷ filter stays os) (filter stays os))
      by true rest = (rises.0, rest)
      by false rest = let first : low ≤ o.kind = rises.0 in lower low (o.kind + 1) (filter stays os) (omega arith) rest

  dropped-good : (os : List Opaque) → has_bad_others os ≡ false → has_bad_others (filter stays os) ≡ false
  dropped-good os good =
      let p = or_parts (not (rise os)) (list_any (λ o. is_recognised o.kind) os) good in
      let rises : rise (filter stays os) ≡ true = rises-rise 0 (filter stays os) (filter-rises 0 os (rise-rises os (not-false (rise os) p.0))) in
      or_from (not (rise (filter stays os))) (list_any (λ o. is_recognised o.kind) (filter stays os)) (not_from_true (rise (filter stays os)) rises)
      (all-none (λ o. is_recognised o.kind) (filter stays os) (filter-all stays (λ o. is_recognised o.kind ≡ false) os (none-all (λ o. is_recognised o.kind) os p.1)))

  -- ---- the UPDATE

  as4-by : (as4 any fewer : Bool) → (any ≡ false → fewer ≡ false) → (as4 && any) ≡ false → (as4 && fewer) ≡ false
  as4-by true any fewer less e = less e
  as4-by false any fewer less e = refl

  dropped-accepted : (ctx : Context) (u : Update) → IsAccepted ctx u → IsAccepted ctx (cleaned_update drops u)
  dropped-accepted ctx u acc = record {
    complete = acc.complete;
    next_hop = acc.next_hop;
    local_pref = acc.local_pref;
    narrow = dropped-none (is_too_wide ctx) u.attrs acc.narrow;
    allowed = as4-by ctx.as4 (any_attr is_as4 u) (any_attr is_as4 (cleaned_update drops u)) (dropped-none is_as4 u.attrs) acc.allowed;
    family = dropped-none (is_out_of_place ctx) u.attrs acc.family;
    some = dropped-none is_empty u.attrs acc.some;
    others = dropped-good u.attrs.others acc.others;
    nonzero = dropped-none has_as_zero u.attrs acc.nonzero;
    once = dropped-none stands_twice u.attrs acc.once;
  }

  dropped-ranges : (u : Update) → HasUpdateRanges u → HasUpdateRanges (cleaned_update drops u)
  dropped-ranges u r = record {
    withdrawn = r.withdrawn;
    attributes = dropped-all HasRanges u.attrs r.attributes;
    others = filter-all stays (λ o. o.kind < 256) u.attrs.others r.others;
    nlri = r.nlri;
  }

  pub dropped-written : (ctx : Context) (u : Update) (body : List ℕ) → CanBeWritten ctx u body → CanBeWritten ctx (cleaned_update drops u) body
  dropped-written ctx u body can = record {
    valid = accepted-valid ctx (cleaned_update drops u) (dropped-accepted ctx u (valid-accepted ctx u can.valid));
    ranges = dropped-ranges u can.ranges;
    no_longer =
        omega (
          arith,
          can.no_longer,
          dropped-shorter ctx u.attrs,
          length-body (run_octets u.withdrawn) (attributes_octets ctx u.attrs) (run_octets u.nlri),
          length-body (run_octets u.withdrawn) (attributes_octets ctx (cleaned_attrs drops u.attrs)) (run_octets u.nlri),
        );
  }

  pub dropped-again : (u : Update) → cleaned_update drops (cleaned_update drops u) ≡ cleaned_update drops u
  dropped-again u = ap (λ (os : List Opaque). record u { attrs = record u.attrs { others = os } }) (filter-again stays u.attrs.others)
