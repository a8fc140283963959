-- The slots of what was kept: each has the first attribute of its type.
use Rattle.bgp_wire.proofs.Std.{◌≡◌, ℕ, Bool, true, false, not, cond, eqb, List, [], ◌∷◌, ◌++◌, length, map, Option, Some, None, refl, sym, ap, subst, ◌∙◌, flat_map, find, list_any, AllByRecursion, both_ways, or_parts, or_from, not_from_true}
use Rattle.std.specs.Prelude.{is_none}
use Rattle.std.proofs.lemmas.Bool.{ne_eqb}
use Rattle.bgp_attr.specs.declared.attr.Attr.{Attr}
use Rattle.bgp_attr.specs.declared.opaque.Opaque.{Opaque}
use Rattle.bgp_attr.specs.Prelude.{is_recognised, type_of, is_misnamed}
use Rattle.bgp_attr.specs.declared.attr.Attr.TheVariants as attr
use Rattle.bgp_wire.specs.Prelude.{also, none_of_them}
use Rattle.bgp_update.specs.Prelude.{as_opaque, attrs_from, first_known, rising_behind, attrs_of, present, slot, canonical_order, attr_list, has_bad_others, rise}
use Rattle.bgp_update.proofs.Lists.{find-same, none-found, all-none, all-more, all-append, flat_map-same, all-flat_map}
use Rattle.bgp_update.proofs.Rising.{NoneTwice, kinds, of_kind, rising-find, rising-rises, rising-all, rises-rise}
use Rattle.bgp_update.proofs.TypeLemmas.{fresh-fewer, other_kind, is_of, at_most_one, first_of_type, Named}
use Rattle.bgp_update.proofs.SlotLemmas.{typed-first, slot-from, other-from}

-- ---- the unrecognised ones among attributes

pub opaques-all : (P : Attr → Type 0) (Q : Opaque → Type 0) → ((o : Opaque) → P (attr.Opaque o) → Q o) → (xs : List Attr) → AllByRecursion P xs → AllByRecursion Q (flat_map as_opaque xs)
opaques-all P Q each [] all = tt
opaques-all P Q each (x ∷ xs) all = all-append Q (as_opaque x) (flat_map as_opaque xs) (one x all.0) (opaques-all P Q each xs all.1)
  where
    one : (x : Attr) → P x → AllByRecursion Q (as_opaque x)
    one (attr.Opaque o) p = (each o p, tt)
    one _ p = tt

-- their types are among those of all attributes
opaques-by : (x : Attr) (os : List Opaque) (seen : ℕ → Bool) → seen (type_of x) ≡ false → NoneTwice (also (type_of x) seen) (kinds os) → NoneTwice seen (kinds (as_opaque x ++ os))
opaques-by (attr.Opaque o) os seen new fresh = (new, fresh)
opaques-by x os seen new fresh = fresh-fewer (also (type_of x) seen) seen (kinds os) (λ k e. (or_parts (eqb k (type_of x)) (seen k) e).1) fresh

pub opaques-fresh : (xs : List Attr) (seen : ℕ → Bool) → NoneTwice seen (map type_of xs) → NoneTwice seen (kinds (flat_map as_opaque xs))
opaques-fresh [] seen fresh = tt
opaques-fresh (x ∷ xs) seen fresh = opaques-by x (flat_map as_opaque xs) seen fresh.0 (opaques-fresh xs (also (type_of x) seen) fresh.1)

-- an attribute of an unrecognised type is found among them
found-by : (k : ℕ) (x : Attr) (os : List Opaque) (later : Option Attr) → is_recognised k ≡ false → present (λ (o : Opaque). attr.Opaque o) (of_kind k os) ≡ at_most_one later
    → present (λ (o : Opaque). attr.Opaque o) (of_kind k (as_opaque x ++ os)) ≡ at_most_one (cond (eqb (type_of x) k) (Some x) later)
found-by k (attr.Opaque o) os later other rest = at (eqb o.kind k)
  where
    at : (t : Bool) → present (λ (p : Opaque). attr.Opaque p) (cond t (Some o) (of_kind k os)) ≡ at_most_one (cond t (Some (attr.Opaque o)) later)
    at true = refl
    at false = rest
found-by k x os later other rest =
    rest
    ∙ sym (ap (λ (t : Bool). at_most_one (cond t (Some x) later)) (ne_eqb (type_of x) k (λ (same : type_of x ≡ k). both_ways (is_recognised k) other (ap is_recognised (sym same)))))

pub opaque-first : (k : ℕ) → is_recognised k ≡ false → (xs : List Attr) → present (λ (o : Opaque). attr.Opaque o) (of_kind k (flat_map as_opaque xs)) ≡ first_of_type k xs
opaque-first k other [] = refl
opaque-first k other (x ∷ xs) = found-by k x (flat_map as_opaque xs) (find (λ y. eqb (type_of y) k) xs) other (opaque-first k other xs)

pub others_of-kept : (kept : List Attr) → (attrs_of kept).others ≡ rising_behind [] (flat_map as_opaque kept)
unfolding attrs_from
others_of-kept kept = refl

-- ---- the slots

-- an attribute of a recognised type is one that has this type
has-type : (k : ℕ) → is_recognised k ≡ true → (x : Attr) → is_misnamed x ≡ false → is_of k x ≡ eqb (type_of x) k
has-type k known (attr.Opaque o) named = sym (other_kind o.kind k known named)
has-type k known _ named = refl

module _ (xs : List Attr) (named : Named xs) (fresh : NoneTwice none_of_them (map type_of xs)) where
  pub slot-kept : (k : ℕ) → slot (attrs_of xs) k ≡ first_of_type k xs
  slot-kept k = by (is_recognised k) refl
    where
      by : (b : Bool) → is_recognised k ≡ b → slot (attrs_of xs) k ≡ first_of_type k xs
      by true known =
          slot-from (first_known xs) (rising_behind [] (flat_map as_opaque xs)) k (typed-first k xs) known
          ∙ ap at_most_one (find-same (is_of k) (λ x. eqb (type_of x) k) xs (all-more (λ x. is_misnamed x ≡ false) (λ x. is_of k x ≡ eqb (type_of x) k) xs (has-type k known) named))
      by false other =
          other-from (first_known xs) (rising_behind [] (flat_map as_opaque xs)) k other
          ∙ ap (λ (o : Option Opaque). present (λ (p : Opaque). attr.Opaque p) o) (rising-find k (flat_map as_opaque xs) [] none_of_them (λ j. refl) (opaques-fresh xs none_of_them fresh))
          ∙ opaque-first k other xs

  -- the field of a type is empty where none has the type
  pub field-lacks : {A : Type 0} (as_attr : A → Attr) (o : Option A) (k : ℕ) → slot (attrs_of xs) k ≡ present as_attr o → is_none o ≡ not (list_any (λ x. eqb (type_of x) k) xs)
  field-lacks {A = A} as_attr o k is =
      lacks as_attr o ∙ ap (λ (ys : List Attr). eqb (length ys) 0) (sym is ∙ slot-kept k) ∙ sym (lacks (λ x. x) (find (λ x. eqb (type_of x) k) xs)) ∙ none-found (λ x. eqb (type_of x) k) xs
    where
      lacks : {B : Type 0} (f : B → Attr) (p : Option B) → is_none p ≡ eqb (length (present f p)) 0
      lacks f None = refl
      lacks f (Some v) = refl

  -- the attributes by type, in their order
  pub kept-list : attr_list (attrs_of xs) ≡ flat_map (λ k. first_of_type k xs) canonical_order
  kept-list = flat_map-same (slot (attrs_of xs)) (λ k. first_of_type k xs) canonical_order slot-kept

  -- what holds of each that was kept holds of each attribute by type
  pub kept-all : (P : Attr → Type 0) → AllByRecursion P xs → AllByRecursion P (attr_list (attrs_of xs))
  kept-all P all = subst (λ (ys : List Attr). AllByRecursion P ys) (sym kept-list) (all-flat_map P (λ k. first_of_type k xs) canonical_order (λ k. first-all k xs all))
    where
      first-by : (x : Attr) (later : Option Attr) (t : Bool) → P x → AllByRecursion P (at_most_one later) → AllByRecursion P (at_most_one (cond t (Some x) later))
      first-by x later true this rest = (this, tt)
      first-by x later false this rest = rest

      first-all : (k : ℕ) (ys : List Attr) → AllByRecursion P ys → AllByRecursion P (first_of_type k ys)
      first-all k [] all = tt
      first-all k (y ∷ ys) all = first-by y (find (λ x. eqb (type_of x) k) ys) (eqb (type_of y) k) all.0 (first-all k ys all.1)

  -- the unrecognised ones are in ascending order, and are unrecognised
  pub kept-others : has_bad_others (attrs_of xs).others ≡ false
  unfolding attrs_from
  kept-others =
      let os : List Opaque = rising_behind [] (flat_map as_opaque xs) in
      let rises = rises-rise 0 os (rising-rises (flat_map as_opaque xs) [] none_of_them (λ j. refl) (opaques-fresh xs none_of_them fresh) tt) in
      let unrecognised = rising-all (λ o. is_recognised o.kind ≡ false) (flat_map as_opaque xs) [] tt (opaques-all (λ x. is_misnamed x ≡ false) (λ o. is_recognised o.kind ≡ false) (λ o e. e) xs named) in
      or_from (not (rise os)) (list_any (λ o. is_recognised o.kind) os) (not_from_true (rise os) rises) (all-none (λ o. is_recognised o.kind) os unrecognised)
