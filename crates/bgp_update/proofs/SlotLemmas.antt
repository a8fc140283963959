-- The slots of attributes: each holds the one attribute of its type, and all of them hold all attributes.
use Rattle.bgp_wire.proofs.Std.{◌≡◌, ℕ, ◌+◌, ◌<◌, ◌≤◌, Bool, true, false, not, ◌&&◌, cond, eqb, List, [], ◌∷◌, ◌++◌, length, map, Option, Some, None, inl, inr, refl, sym, ap, subst, ◌∙◌, arith, flat_map, filter, list_any, AllByRecursion, both_ways, and_parts, and_right, or_parts, or_cases, not-false, not-true, flat_map-append}
use Rattle.std.specs.Prelude.{is_some}
use Rattle.std.proofs.lemmas.Bool.{eqb-true}
use Rattle.bgp_numbers.specs.declared.attribute.TheConstants as attribute
use Rattle.bgp_open.specs.declared.context.Context.{Context}
use Rattle.bgp_attr.specs.declared.attr.Attr.{Attr}
use Rattle.bgp_attr.specs.declared.opaque.Opaque.{Opaque}
use Rattle.bgp_attr.specs.Prelude.{TlvValue, is_recognised, other_type, type_of, is_misnamed, entry_of}
use Rattle.bgp_attr.specs.declared.attr.Attr.TheVariants as attr
use Rattle.bgp_attr.specs.Judgement as judgement
use Rattle.bgp_attr.proofs.Tables.{EachRow, by_row, entry-other, entry-passes}
use Rattle.bgp_update.specs.declared.attrs.Attrs.{Attrs}
use Rattle.bgp_update.specs.Prelude.{carries_routes, is_opaque, as_opaque, rising_behind, attrs_from, attrs_of, first_known, present, slots, slot, types_from, canonical_order, attr_list, has_bad_others, rise}
use Rattle.bgp_update.specs.Fields as fields
use Rattle.bgp_wire.specs.Prelude.{◌>>=◌}
use Rattle.bgp_update.proofs.Lists.{find-passes, find-none, find-among, none-all, all-none, all-more, all-among, flat_map-all_none, flat_map-same, flat_map-filter, all-flat_map}
use Rattle.bgp_update.proofs.Rising.{of_kind, rising-same, rise-rises, types-find, listed}
use Rattle.bgp_update.proofs.TypeLemmas.{in_order, is_of, at_most_one, other_kind, Named, OfType}

-- ---- what a slot holds

abbrev pub other_slot : Attrs → ℕ → List Attr
other_slot a kind = present (λ (o : Opaque). attr.Opaque o) (of_kind kind a.others)

module _ (a : Attrs) (kind : ℕ) where
  -- the slot that the table has for a number
  pub slot-at : slot a kind ≡ entry_of kind (slots a) (other_slot a kind)
  unfolding slot
  slot-at = refl

  pub slot-other : is_recognised kind ≡ false → slot a kind ≡ other_slot a kind
  unfolding slot
  slot-other other = entry-other kind (other_slot a kind) (slots a) other

-- ---- all recognised types at once

-- what is the same for all rows of a table is the same for each
pub each-row : {A B : Type 0} (f g : ℕ → A → B) (rows : List (ℕ × A)) → map (λ row. f row.0 row.1) rows ≡ map (λ row. g row.0 row.1) rows → EachRow (λ kind a. f kind a ≡ g kind a) rows
each-row f g [] same = tt
each-row f g (row ∷ rows) same =
    let this : f row.0 row.1 ≡ g row.0 row.1 = cc in
    let rest : map (λ row. f row.0 row.1) rows ≡ map (λ row. g row.0 row.1) rows = cc in
    (this, each-row f g rows rest)

-- and what is the same for all recognised types is the same for each
pub at_each : {A : Type 0} (f g : ℕ → A) → map (λ row. f row.0) judgement.recognised ≡ map (λ row. g row.0) judgement.recognised → (kind : ℕ) → is_recognised kind ≡ true → f kind ≡ g kind
at_each f g same kind known =
    by_row kind (λ (ctx : Context) (has_nlri : Bool) (t : TlvValue). other_type t) (λ k row. f k ≡ g k) judgement.recognised (each-row (λ k row. f k) (λ k row. g k) judgement.recognised same)
    (λ none. absurd (both_ways (is_recognised kind) none known))

-- ---- attributes built from those by type

-- an attribute of a recognised type
abbrev pub IsTyped : ℕ → Option Attr → Type 0
IsTyped kind o = (x : Attr) → o ≡ Some x → is_of kind x ≡ true

pub typed-first : (kind : ℕ) (xs : List Attr) → IsTyped kind (first_known xs kind)
typed-first kind xs = find-passes (is_of kind) xs

-- an attribute is in the slot of its type
alone : (others : List Opaque) (x : Attr)
    → map (λ row. cond (is_of row.0 x) (slot (attrs_from (λ k. Some x) others) row.0) []) judgement.recognised ≡ map (λ row. cond (is_of row.0 x) (x ∷ []) []) judgement.recognised
unfolding slot attrs_from
alone others (attr.Opaque o) = refl
alone others _ = refl

module _ (first : ℕ → Option Attr) (others : List Opaque) (kind : ℕ) where
  pub slot-from : IsTyped kind (first kind) → is_recognised kind ≡ true → slot (attrs_from first others) kind ≡ at_most_one (first kind)
  unfolding slot attrs_from
  slot-from typed known =
      at_each (λ k. slot (attrs_from first others) k) (λ k. slot (attrs_from (λ j. first k) others) k) refl kind known ∙ by (first kind) typed
    where
      by : (o : Option Attr) → IsTyped kind o → slot (attrs_from (λ j. o) others) kind ≡ at_most_one o
      by None typed = at_each (λ k. slot (attrs_from (λ j. None) others) k) (λ k. []) refl kind known
      by (Some x) typed =
          subst (λ (t : Bool). cond t (slot (attrs_from (λ j. Some x) others) kind) [] ≡ cond t (x ∷ []) []) (typed x refl)
          (at_each (λ k. cond (is_of k x) (slot (attrs_from (λ j. Some x) others) k) []) (λ k. cond (is_of k x) (x ∷ []) []) (alone others x) kind known)

  pub other-from : is_recognised kind ≡ false → slot (attrs_from first others) kind ≡ present (λ (o : Opaque). attr.Opaque o) (of_kind kind others)
  unfolding attrs_from
  other-from other = slot-other (attrs_from first others) kind other

-- they are built from those of recognised types only
attrs-agree : (first second : ℕ → Option Attr) (others : List Opaque) → ((kind : ℕ) → is_recognised kind ≡ true → first kind ≡ second kind) → attrs_from first others ≡ attrs_from second others
unfolding attrs_from
attrs-agree first second others same = ap (λ (f : ℕ → Option Attr). attrs_from (λ k. cond (is_recognised k) (f k) None) others) (λ i. λ k. known k (is_recognised k) refl i)
  where
    known : (k : ℕ) (b : Bool) → is_recognised k ≡ b → cond b (first k) None ≡ cond b (second k) None
    known k true e = same k e
    known k false e = refl

-- ---- the slots hold all attributes

back : {A : Type 0} (as_attr : A → Attr) (as_value : Attr → Option A) (kind : ℕ) → ((v : A) → (first_known (as_attr v ∷ []) kind >>= as_value) ≡ Some v)
    → (o : Option A) → (first_known (present as_attr o) kind >>= as_value) ≡ o
back as_attr as_value kind each None = refl
back as_attr as_value kind each (Some v) = each v

abbrev pub atomic_slot : Bool → List Attr
atomic_slot b = cond b (attr.Atomic ∷ []) []

atomic-back : (b : Bool) → is_some (first_known (atomic_slot b) attribute.ATOMIC_AGGREGATE) ≡ b
atomic-back true = refl
atomic-back false = refl

module _ (a : Attrs) where
  abbrev in_slot : ℕ → Option Attr
  in_slot k = first_known (slot a k) k

  -- one more type is one more line here, and in no other of these facts
  pub fields-back : attrs_from in_slot a.others ≡ a
  unfolding slot attrs_from
  fields-back = λ i. record {
    origin = back attr.Origin (elim [ attr.Origin o ↦ Some o | _ ↦ None ]) attribute.ORIGIN (λ v. refl) a.origin i;
    as_path = back attr.AsPath fields.as_as_path attribute.AS_PATH (λ v. refl) a.as_path i;
    next_hop = back attr.NextHop (elim [ attr.NextHop addr ↦ Some addr | _ ↦ None ]) attribute.NEXT_HOP (λ v. refl) a.next_hop i;
    med = back attr.Med (elim [ attr.Med n ↦ Some n | _ ↦ None ]) attribute.MULTI_EXIT_DISC (λ v. refl) a.med i;
    local_pref = back attr.LocalPref (elim [ attr.LocalPref n ↦ Some n | _ ↦ None ]) attribute.LOCAL_PREF (λ v. refl) a.local_pref i;
    atomic = atomic-back a.atomic i;
    aggregator = back attr.Aggregator (elim [ attr.Aggregator a ↦ Some a | _ ↦ None ]) attribute.AGGREGATOR (λ v. refl) a.aggregator i;
    communities = back attr.Communities fields.as_communities attribute.COMMUNITIES (λ v. refl) a.communities i;
    mp_reach = back attr.MpReach fields.as_mp_reach attribute.MP_REACH_NLRI (λ v. refl) a.mp_reach i;
    mp_unreach = back attr.MpUnreach fields.as_mp_unreach attribute.MP_UNREACH_NLRI (λ v. refl) a.mp_unreach i;
    as4_path = back attr.As4Path fields.as_as4_path attribute.AS4_PATH (λ v. refl) a.as4_path i;
    as4_aggregator = back attr.As4Aggregator (elim [ attr.As4Aggregator a ↦ Some a | _ ↦ None ]) attribute.AS4_AGGREGATOR (λ v. refl) a.as4_aggregator i;
    large = back attr.Large fields.as_large attribute.LARGE_COMMUNITY (λ v. refl) a.large i;
    others = a.others;
  }

  -- so a slot has the first attribute of its type and no more
  slot-first : (kind : ℕ) → is_recognised kind ≡ true → slot a kind ≡ at_most_one (in_slot kind)
  slot-first kind known = ap (λ (b : Attrs). slot b kind) (sym fields-back) ∙ slot-from in_slot a.others kind (typed-first kind (slot a kind)) known

-- ---- the attributes of a slot are of its type

-- the type is that of the slot, and no unrecognised attribute has a recognised one
pub record OfSlot (kind : ℕ) (x : Attr) : Type 0 where
  pub of_type : type_of x ≡ kind
  pub named : is_misnamed x ≡ false

-- a slot: attributes of its type, at most one
pub record IsSlot (kind : ℕ) (xs : List Attr) : Type 0 where
  pub all : AllByRecursion (OfSlot kind) xs
  pub few : length xs ≤ 1

present-is : {A : Type 0} (kind : ℕ) (as_attr : A → Attr) (o : Option A) → ((v : A) → o ≡ Some v → OfSlot kind (as_attr v)) → IsSlot kind (present as_attr o)
present-is kind as_attr None each = record { all = tt; few = omega arith }
present-is kind as_attr (Some v) each = record { all = (each v refl, tt); few = omega arith }

of-slot : (kind : ℕ) (x : Attr) → is_of kind x ≡ true → OfSlot kind x
of-slot kind x is = let p = and_parts (not (is_opaque x)) (eqb (type_of x) kind) is in record { of_type = eqb-true (type_of x) kind p.1; named = plain x (not-true (is_opaque x) p.0) }
  where
    plain : (y : Attr) → is_opaque y ≡ false → is_misnamed y ≡ false
    plain (attr.Opaque o) e = absurd cc
    plain _ e = refl

pub slot-is : (a : Attrs) (k : ℕ) → IsSlot k (slot a k)
slot-is a k = by (is_recognised k) refl
  where
    by : (b : Bool) → is_recognised k ≡ b → IsSlot k (slot a k)
    by true known =
        subst (IsSlot k) (sym (slot-first a k known)) (present-is k (λ (x : Attr). x) (first_known (slot a k) k) (λ x found. of-slot k x (typed-first k (slot a k) x found)))
    by false other =
        subst (IsSlot k) (sym (slot-other a k other)) (present-is k (λ (o : Opaque). attr.Opaque o) (of_kind k a.others) (λ o found.
        (let same : o.kind ≡ k = eqb-true o.kind k (find-passes (λ p. eqb p.kind k) a.others o found) in record { of_type = same; named = ap is_recognised same ∙ other })))

pub slot-types : (a : Attrs) (k : ℕ) → OfType k (slot a k)
slot-types a k = all-more (OfSlot k) (λ x. type_of x ≡ k) (slot a k) (λ x s. s.of_type) (slot-is a k).all

pub list-named : (a : Attrs) → Named (attr_list a)
list-named a =
    all-flat_map (λ x. is_misnamed x ≡ false) (slot a) canonical_order (λ k. all-more (OfSlot k) (λ x. is_misnamed x ≡ false) (slot a k) (λ x s. s.named) (slot-is a k).all)

-- ---- the attributes in order hold all attributes

-- each type that is recognised is in the order
pub recognised-stands : (k : ℕ) → is_recognised k ≡ true → in_order k ≡ true
unfolding canonical_order
recognised-stands k recognised = entry-passes in_order k judgement.recognised refl recognised

-- what holds of all attributes holds of those of a recognised type
pub slot-all : (P : Attr → Type 0) (a : Attrs) (kind : ℕ) → is_recognised kind ≡ true → AllByRecursion P (attr_list a) → AllByRecursion P (slot a kind)
slot-all P a kind recognised all = all-among P (slot a) kind canonical_order (recognised-stands kind recognised) all

pub field-all : (P : Attr → Type 0) (a : Attrs) (kind : ℕ) → is_recognised kind ≡ true → AllByRecursion P (attr_list a) → AllByRecursion P (entry_of kind (slots a) (other_slot a kind))
field-all P a kind recognised all = subst (λ (xs : List Attr). AllByRecursion P xs) (slot-at a kind) (slot-all P a kind recognised all)

-- among all attributes, the first of a type is that of its slot
first-listed : (a : Attrs) (kind : ℕ) → is_recognised kind ≡ true → first_known (attr_list a) kind ≡ first_known (slot a kind) kind
first-listed a kind known =
    find-among (is_of kind) (slot a) kind canonical_order apart ∙ ap (λ (t : Bool). cond t (first_known (slot a kind) kind) None) (recognised-stands kind known)
  where
    apart : (k : ℕ) → eqb k kind ≡ false → first_known (slot a k) kind ≡ None
    apart k other =
        find-none (is_of kind) (slot a k)
        (all-none (is_of kind) (slot a k) (all-more (λ x. type_of x ≡ k) (λ x. is_of kind x ≡ false) (slot a k)
        (λ x same. ap (λ (j : ℕ). not (is_opaque x) && eqb j kind) same ∙ ap (λ (t : Bool). not (is_opaque x) && t) other ∙ and_right (not (is_opaque x)) false refl) (slot-types a k)))

flat_map-twice : {A B C : Type 0} (f : B → List C) (g : A → List B) (xs : List A) → flat_map f (flat_map g xs) ≡ flat_map (λ x. flat_map f (g x)) xs
flat_map-twice f g [] = refl
flat_map-twice {C = C} f g (x ∷ xs) = flat_map-append f (g x) (flat_map g xs) ∙ ap (λ (b : List C). flat_map f (g x) ++ b) (flat_map-twice f g xs)

-- an attribute of a recognised type isn't among the unrecognised ones
no_opaque : (k : ℕ) → is_recognised k ≡ true → (x : Attr) → OfSlot k x → as_opaque x ≡ []
no_opaque k recognised (attr.Opaque o) s = absurd (both_ways (is_recognised o.kind) s.named (ap is_recognised s.of_type ∙ recognised))
no_opaque k recognised _ s = refl

one_opaque : (o : Option Opaque) → flat_map as_opaque (present (λ (p : Opaque). attr.Opaque p) o) ≡ listed o
one_opaque None = refl
one_opaque (Some p) = refl

-- a recognised type isn't found among the unrecognised ones
unfound : (k : ℕ) (os : List Opaque) → is_recognised k ≡ true → list_any (λ o. is_recognised o.kind) os ≡ false → listed (of_kind k os) ≡ []
unfound k os recognised none =
    let apart : AllByRecursion (λ o. eqb o.kind k ≡ false) os = all-more (λ o. is_recognised o.kind ≡ false) (λ o. eqb o.kind k ≡ false) os (λ o e. other_kind o.kind k recognised e) (none-all (λ o. is_recognised o.kind) os none) in
    ap listed (find-none (λ o. eqb o.kind k) os (all-none (λ o. eqb o.kind k) os apart))

slot-opaque : (a : Attrs) → list_any (λ o. is_recognised o.kind) a.others ≡ false → (k : ℕ) → flat_map as_opaque (slot a k) ≡ listed (of_kind k a.others)
slot-opaque a none k = by (is_recognised k) refl
  where
    by : (t : Bool) → is_recognised k ≡ t → flat_map as_opaque (slot a k) ≡ listed (of_kind k a.others)
    by true recognised = flat_map-all_none as_opaque (slot a k) (all-more (OfSlot k) (λ x. as_opaque x ≡ []) (slot a k) (no_opaque k recognised) (slot-is a k).all) ∙ sym (unfound k a.others recognised none)
    by false other = ap (flat_map as_opaque) (slot-other a k other) ∙ one_opaque (of_kind k a.others)

order-find : (n : ℕ) (os : List Opaque) → list_any (λ o. is_recognised o.kind) os ≡ false → rise os ≡ true → AllByRecursion (λ o. o.kind < 0 + n) os
    → flat_map (λ k. listed (of_kind k os)) (attribute.MP_REACH_NLRI ∷ attribute.MP_UNREACH_NLRI ∷ filter (λ kind. not (carries_routes kind)) (types_from 0 n)) ≡ os
order-find n os none rises small =
    ap (λ (b : List Opaque). b ++ (listed (of_kind attribute.MP_UNREACH_NLRI os) ++ flat_map (λ k. listed (of_kind k os)) (filter (λ kind. not (carries_routes kind)) (types_from 0 n)))) (unfound attribute.MP_REACH_NLRI os refl none)
    ∙ ap (λ (b : List Opaque). b ++ flat_map (λ k. listed (of_kind k os)) (filter (λ kind. not (carries_routes kind)) (types_from 0 n))) (unfound attribute.MP_UNREACH_NLRI os refl none)
    ∙ flat_map-filter (λ k. listed (of_kind k os)) (λ kind. not (carries_routes kind)) (types_from 0 n) (λ k e. carrying k (not-false (carries_routes k) e))
    ∙ types-find n 0 os (rise-rises os rises) small
  where
    carrying : (k : ℕ) → carries_routes k ≡ true → listed (of_kind k os) ≡ []
    carrying k e = elim (or_cases (eqb k attribute.MP_REACH_NLRI) (eqb k attribute.MP_UNREACH_NLRI) e) [
      | inl same ↦ ap (λ (j : ℕ). listed (of_kind j os)) (eqb-true k attribute.MP_REACH_NLRI same) ∙ unfound attribute.MP_REACH_NLRI os refl none
      | inr same ↦ ap (λ (j : ℕ). listed (of_kind j os)) (eqb-true k attribute.MP_UNREACH_NLRI same) ∙ unfound attribute.MP_UNREACH_NLRI os refl none
    ]

order-others : (os : List Opaque) → list_any (λ o. is_recognised o.kind) os ≡ false → rise os ≡ true → AllByRecursion (λ o. o.kind < 256) os
    → flat_map (λ k. listed (of_kind k os)) canonical_order ≡ os
unfolding canonical_order
order-others os none rises small = order-find 256 os none rises small

others-back : (a : Attrs) → has_bad_others a.others ≡ false → AllByRecursion (λ o. o.kind < 256) a.others → rising_behind [] (flat_map as_opaque (attr_list a)) ≡ a.others
others-back a good small =
    let p = or_parts (not (rise a.others)) (list_any (λ o. is_recognised o.kind) a.others) good in
    let rises : rise a.others ≡ true = not-false (rise a.others) p.0 in
    ap (λ (os : List Opaque). rising_behind [] os) (flat_map-twice as_opaque (slot a) canonical_order
    ∙ flat_map-same (λ k. flat_map as_opaque (slot a k)) (λ k. listed (of_kind k a.others)) canonical_order (slot-opaque a p.1)
    ∙ order-others a.others p.1 rises small)
    ∙ rising-same a.others [] 0 (rise-rises a.others rises) tt

pub list-back : (a : Attrs) → has_bad_others a.others ≡ false → AllByRecursion (λ o. o.kind < 256) a.others → attrs_of (attr_list a) ≡ a
list-back a good small =
    ap (λ (os : List Opaque). attrs_from (first_known (attr_list a)) os) (others-back a good small)
    ∙ attrs-agree (first_known (attr_list a)) (λ k. first_known (slot a k) k) a.others (first-listed a) ∙ fields-back a
