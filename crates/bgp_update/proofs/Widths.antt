-- A valid UPDATE with AS numbers of four octets has no AS4 attribute, and what is sent of it to a 2-octet-AS peer is valid there.
use Rattle.bgp_wire.proofs.Std.{◌≡◌, ℕ, Bool, true, false, ◌&&◌, ◌||◌, cond, eqb, ltb, List, [], ◌∷◌, length, map, Option, Some, None, subst, refl, sym, ap, ◌∙◌, list_any, AllByRecursion, false≢true, or_parts, or_from, length-map}
use Rattle.std.specs.Prelude.{option_map, is_none}
use Rattle.std.proofs.lemmas.Bool.{true≢false, eqb-true, ne_eqb}
use Rattle.bgp_numbers.specs.declared.TheConstants.{AS_TRANS}
use Rattle.bgp_numbers.specs.declared.attribute.TheConstants.{AS_PATH, AGGREGATOR, AS4_PATH, AS4_AGGREGATOR}
use Rattle.bgp_open.specs.declared.context.Context.{Context}
use Rattle.bgp_prefix.specs.declared.as_number.AsNumber.{AsNumber}
use Rattle.bgp_attr.specs.declared.aggregator.Aggregator.{Aggregator}
use Rattle.bgp_attr.specs.declared.attr.Attr.{Attr}
use Rattle.bgp_attr.specs.declared.path.Segment.{Segment}
use Rattle.bgp_attr.specs.declared.path.AsPath.{AsPath}
use Rattle.bgp_attr.specs.declared.path.As4Path.{As4Path}
use Rattle.bgp_attr.specs.Prelude.{as_number, is_recognised, type_of, any_number, is_above_two_octets, is_zero, is_bad_segment, is_too_wide, is_as4, is_empty, has_as_zero, stands_twice, is_out_of_place}
use Rattle.bgp_attr.specs.declared.attr.Attr.TheVariants as attr
use Rattle.bgp_attr.specs.declared.mp.MpReach.TheVariants as reach
use Rattle.bgp_attr.specs.declared.mp.MpUnreach.TheVariants as unreach
use Rattle.bgp_update.specs.declared.attrs.Attrs.{Attrs}
use Rattle.bgp_update.specs.declared.update.Update.{Update}
use Rattle.bgp_update.specs.Prelude.{narrow_number, narrow_segment, narrow_path, wide_path, narrow_aggregator, wide_aggregator, narrowed, narrowed_update, HasNoAs4, present, slot, canonical_order, attr_list, with_as4, lacks_some, invalid_of}
use Rattle.bgp_update.proofs.Lists.{none-all, all-none, all-carried, all-both}
use Rattle.bgp_update.proofs.SlotLemmas.{slot-other, at_each, slot-types, slot-all, field-all}
use Rattle.bgp_update.proofs.Validity.{valid-accepted, accepted-valid}

-- ---- what is sent of the four attributes of AS numbers, and of all others

-- the types whose attributes may be sent changed
abbrev pub is_narrowed : ℕ → Bool
is_narrowed k = eqb k AS_PATH || (eqb k AGGREGATOR || (eqb k AS4_PATH || eqb k AS4_AGGREGATOR))

-- a fact for each of these types, and one for all others
pub by_narrowed : (P : ℕ → Type 0) → P AS_PATH → P AGGREGATOR → P AS4_PATH → P AS4_AGGREGATOR → ((k : ℕ) → is_narrowed k ≡ false → P k) → (k : ℕ) → P k
by_narrowed P path aggregator as4_path as4_aggregator rest k = by (eqb k AS_PATH) refl (eqb k AGGREGATOR) refl (eqb k AS4_PATH) refl (eqb k AS4_AGGREGATOR) refl
  where
    by : (b : Bool) → eqb k AS_PATH ≡ b → (c : Bool) → eqb k AGGREGATOR ≡ c → (d : Bool) → eqb k AS4_PATH ≡ d → (e : Bool) → eqb k AS4_AGGREGATOR ≡ e → P k
    by true p c q d r e s = subst P (sym (eqb-true k AS_PATH p)) path
    by false p true q d r e s = subst P (sym (eqb-true k AGGREGATOR q)) aggregator
    by false p false q true r e s = subst P (sym (eqb-true k AS4_PATH r)) as4_path
    by false p false q false r true s = subst P (sym (eqb-true k AS4_AGGREGATOR s)) as4_aggregator
    by false p false q false r false s = rest k (or_from _ _ p (or_from _ _ q (or_from _ _ r s)))

-- each other slot is sent unchanged
pub same-slot : (a : Attrs) (k : ℕ) → is_narrowed k ≡ false → slot (narrowed a) k ≡ slot a k
unfolding slot
same-slot a k same = by (is_recognised k) refl
  where
    by : (b : Bool) → is_recognised k ≡ b → slot (narrowed a) k ≡ slot a k
    by true known =
        subst (λ (t : Bool). cond t [] (slot (narrowed a) k) ≡ cond t [] (slot a k)) same
        (at_each (λ j. cond (is_narrowed j) [] (slot (narrowed a) j)) (λ j. cond (is_narrowed j) [] (slot a j)) refl k known)
    by false other = slot-other (narrowed a) k other ∙ sym (slot-other a k other)

-- a fact about each attribute implies a fact about each that is sent
pub record Carries (P Q : Attr → Type 0) : Type 0 where
  pub as_path : (p : AsPath) → P (attr.AsPath p) → Q (attr.AsPath (narrow_path p))
  pub as4_path : (p : AsPath) → any_number is_above_two_octets p ≡ true → P (attr.AsPath p) → Q (attr.As4Path (record { partial = false; path = p }))
  pub aggregator : (g : Aggregator) → P (attr.Aggregator g) → Q (attr.Aggregator (narrow_aggregator g))
  pub as4_aggregator : (g : Aggregator) → P (attr.Aggregator g) → Q (attr.As4Aggregator g)
  pub same : (x : Attr) → is_narrowed (type_of x) ≡ false → P x → Q x

module _ (P Q : Attr → Type 0) (told : Carries P Q) (a : Attrs) where
  told-path : (o : Option AsPath) → AllByRecursion P (present (λ (p : AsPath). attr.AsPath p) o) → AllByRecursion Q (present (λ (p : AsPath). attr.AsPath p) (option_map narrow_path o))
  told-path None all = tt
  told-path (Some p) all = (told.as_path p all.0, tt)

  told-aggregator : (o : Option Aggregator) → AllByRecursion P (present (λ (g : Aggregator). attr.Aggregator g) o)
      → AllByRecursion Q (present (λ (g : Aggregator). attr.Aggregator g) (option_map narrow_aggregator o))
  told-aggregator None all = tt
  told-aggregator (Some g) all = (told.aggregator g all.0, tt)

  wide_path-by : (p : AsPath) (t : Bool) → any_number is_above_two_octets p ≡ t → P (attr.AsPath p)
      → AllByRecursion Q (present (λ (w : As4Path). attr.As4Path w) (cond t (Some (record { partial = false; path = p })) None))
  wide_path-by p true e h = (told.as4_path p e h, tt)
  wide_path-by p false e h = tt

  told-as4_path : (o : Option AsPath) → AllByRecursion P (present (λ (p : AsPath). attr.AsPath p) o) → AllByRecursion Q (present (λ (w : As4Path). attr.As4Path w) (wide_path o))
  told-as4_path None all = tt
  told-as4_path (Some p) all = wide_path-by p (any_number is_above_two_octets p) refl all.0

  wide_aggregator-by : (g : Aggregator) (t : Bool) → P (attr.Aggregator g) → AllByRecursion Q (present (λ (w : Aggregator). attr.As4Aggregator w) (cond t (Some g) None))
  wide_aggregator-by g true h = (told.as4_aggregator g h, tt)
  wide_aggregator-by g false h = tt

  told-as4_aggregator : (o : Option Aggregator) → AllByRecursion P (present (λ (g : Aggregator). attr.Aggregator g) o)
      → AllByRecursion Q (present (λ (w : Aggregator). attr.As4Aggregator w) (wide_aggregator o))
  told-as4_aggregator None all = tt
  told-as4_aggregator (Some g) all = wide_aggregator-by g (is_above_two_octets (g.asn).0) all.0

  told-same : (k : ℕ) → is_narrowed k ≡ false → AllByRecursion P (slot a k) → AllByRecursion Q (slot (narrowed a) k)
  told-same k kept all =
      subst (λ (xs : List Attr). AllByRecursion Q xs) (sym (same-slot a k kept))
      (all-both (λ x. type_of x ≡ k) P Q (slot a k) (λ x of_type h. told.same x (ap is_narrowed of_type ∙ kept) h) (slot-types a k) all)

  told-slot : AllByRecursion P (slot a AS_PATH) → AllByRecursion P (slot a AGGREGATOR) → (k : ℕ) → AllByRecursion P (slot a k) → AllByRecursion Q (slot (narrowed a) k)
  unfolding slot
  told-slot paths aggregators =
      by_narrowed (λ k. AllByRecursion P (slot a k) → AllByRecursion Q (slot (narrowed a) k))
      (λ all. told-path a.as_path paths) (λ all. told-aggregator a.aggregator aggregators) (λ all. told-as4_path a.as_path paths) (λ all. told-as4_aggregator a.aggregator aggregators)
      told-same

pub told-all : (P Q : Attr → Type 0) → Carries P Q → (a : Attrs) → AllByRecursion P (attr_list a) → AllByRecursion Q (attr_list (narrowed a))
told-all P Q told a all =
    all-carried P Q (slot a) (slot (narrowed a)) canonical_order (told-slot P Q told a (slot-all P a AS_PATH refl all) (slot-all P a AGGREGATOR refl all)) all

-- where no attribute passes a first test, none that is sent passes the other
told-none : (before after : Attr → Bool) → Carries (λ x. before x ≡ false) (λ x. after x ≡ false) → (a : Attrs) → list_any before (attr_list a) ≡ false → list_any after (attr_list (narrowed a)) ≡ false
told-none before after told a none =
    all-none after (attr_list (narrowed a)) (told-all (λ x. before x ≡ false) (λ x. after x ≡ false) told a (none-all before (attr_list a) none))

-- ---- numbers and segments

module _ {A B : Type 0} (f : A → B) (before : A → Bool) (after : B → Bool) where
  map-none : ((x : A) → before x ≡ false → after (f x) ≡ false) → (xs : List A) → list_any before xs ≡ false → list_any after (map f xs) ≡ false
  map-none each [] e = refl
  map-none each (x ∷ xs) e =
      let p = or_parts (before x) (list_any before xs) e in or_from (after (f x)) (list_any after (map f xs)) (each x p.0) (map-none each xs p.1)

map-never : {A B : Type 0} (f : A → B) (after : B → Bool) → ((x : A) → after (f x) ≡ false) → (xs : List A) → list_any after (map f xs) ≡ false
map-never f after each [] = refl
map-never f after each (x ∷ xs) = or_from (after (f x)) (list_any after (map f xs)) (each x) (map-never f after each xs)

-- no number is left that needs more than two octets
number-fits : (n : AsNumber) → is_above_two_octets (narrow_number n).0 ≡ false
number-fits n = by (is_above_two_octets n.0) refl
  where
    by : (t : Bool) → is_above_two_octets n.0 ≡ t → is_above_two_octets (cond t (as_number AS_TRANS) n).0 ≡ false
    by true e = refl
    by false e = e

path-fits : (p : AsPath) → any_number is_above_two_octets (narrow_path p) ≡ false
path-fits p =
    map-never narrow_segment (λ s. list_any (λ n. is_above_two_octets n.0) s.numbers) (λ s. map-never narrow_number (λ n. is_above_two_octets n.0) number-fits s.numbers) p.segments

-- no number becomes 0
number-nonzero : (n : AsNumber) → is_zero n.0 ≡ false → is_zero (narrow_number n).0 ≡ false
number-nonzero n nonzero = by (is_above_two_octets n.0)
  where
    by : (t : Bool) → is_zero (cond t (as_number AS_TRANS) n).0 ≡ false
    by true = refl
    by false = nonzero

path-nonzero : (p : AsPath) → any_number is_zero p ≡ false → any_number is_zero (narrow_path p) ≡ false
path-nonzero p =
    map-none narrow_segment (λ s. list_any (λ n. is_zero n.0) s.numbers) (λ s. list_any (λ n. is_zero n.0) s.numbers)
    (λ s. map-none narrow_number (λ n. is_zero n.0) (λ n. is_zero n.0) number-nonzero s.numbers) p.segments

-- segments keep their counts
path-filled : (p : AsPath) → list_any is_bad_segment p.segments ≡ false → list_any is_bad_segment (narrow_path p).segments ≡ false
path-filled p =
    map-none narrow_segment is_bad_segment is_bad_segment (λ s e. ap (λ (n : ℕ). eqb n 0 || ltb 255 n) (length-map s.numbers narrow_number) ∙ e) p.segments

-- a path with a number has a segment
some-segment : (test : ℕ → Bool) (ss : List Segment) → list_any (λ s. list_any (λ n. test n.0) s.numbers) ss ≡ true → eqb (length ss) 0 ≡ false
some-segment test [] e = absurd (false≢true e)
some-segment test (s ∷ ss) e = ne_eqb (length (s ∷ ss)) 0 (λ (f : length (s ∷ ss) ≡ 0). absurd cc)

-- ---- each test

wide-told : (ctx : Context) → Carries (λ x. is_too_wide ctx x ≡ false) (λ x. is_too_wide (with_as4 false ctx) x ≡ false)
wide-told ctx = record { as_path = λ p h. path-fits p; as4_path = λ p e h. refl; aggregator = λ g h. number-fits g.asn; as4_aggregator = λ g h. refl; same = same }
  where
    same : (x : Attr) → is_narrowed (type_of x) ≡ false → is_too_wide ctx x ≡ false → is_too_wide (with_as4 false ctx) x ≡ false
    same (attr.AsPath p) e h = absurd (true≢false e)
    same (attr.Aggregator g) e h = absurd (true≢false e)
    same _ e h = refl

family-told : (ctx : Context) → Carries (λ x. is_out_of_place ctx x ≡ false) (λ x. is_out_of_place (with_as4 false ctx) x ≡ false)
family-told ctx = record { as_path = λ p h. refl; as4_path = λ p e h. refl; aggregator = λ g h. refl; as4_aggregator = λ g h. refl; same = same }
  where
    same : (x : Attr) → is_narrowed (type_of x) ≡ false → is_out_of_place ctx x ≡ false → is_out_of_place (with_as4 false ctx) x ≡ false
    same (attr.MpReach (reach.Ip4 hop routes)) e h = h
    same (attr.MpReach (reach.Ip6 hop link routes)) e h = h
    same (attr.MpUnreach (unreach.Ip4 routes)) e h = h
    same (attr.MpUnreach (unreach.Ip6 routes)) e h = h
    same _ e h = h

empty-told : Carries (λ x. is_empty x ≡ false) (λ x. is_empty x ≡ false)
empty-told = record {
  as_path = path-filled;
  as4_path = λ p e h. or_from (eqb (length p.segments) 0) (list_any is_bad_segment p.segments) (some-segment is_above_two_octets p.segments e) h;
  aggregator = λ g h. refl;
  as4_aggregator = λ g h. refl;
  same = λ x e h. h;
}

zero-told : Carries (λ x. has_as_zero x ≡ false) (λ x. has_as_zero x ≡ false)
zero-told = record { as_path = path-nonzero; as4_path = λ p e h. h; aggregator = λ g h. number-nonzero g.asn h; as4_aggregator = λ g h. h; same = λ x e h. h }

twice-told : Carries (λ x. stands_twice x ≡ false) (λ x. stands_twice x ≡ false)
twice-told = record { as_path = λ p h. refl; as4_path = λ p e h. refl; aggregator = λ g h. refl; as4_aggregator = λ g h. refl; same = λ x e h. h }

-- a path is missing where it was missing
path-missing : (o : Option AsPath) → is_none (option_map narrow_path o) ≡ is_none o
path-missing None = refl
path-missing (Some p) = refl

complete-told : (u : Update) → lacks_some (narrowed_update u) ≡ lacks_some u
complete-told u = rw (path-missing u.attrs.as_path) refl

-- ---- the laws

pub narrowed_update_is_valid : (ctx : Context) (u : Update) → ctx.as4 ≡ true → invalid_of ctx u ≡ None → invalid_of (with_as4 false ctx) (narrowed_update u) ≡ None
narrowed_update_is_valid ctx u wide valid =
    let a = valid-accepted ctx u valid in
    accepted-valid (with_as4 false ctx) (narrowed_update u) (record {
      complete = complete-told u ∙ a.complete;
      next_hop = a.next_hop;
      local_pref = a.local_pref;
      narrow = told-none (is_too_wide ctx) (is_too_wide (with_as4 false ctx)) (wide-told ctx) u.attrs a.narrow;
      allowed = refl;
      family = told-none (is_out_of_place ctx) (is_out_of_place (with_as4 false ctx)) (family-told ctx) u.attrs a.family;
      some = told-none is_empty is_empty empty-told u.attrs a.some;
      others = a.others;
      nonzero = told-none has_as_zero has_as_zero zero-told u.attrs a.nonzero;
      once = told-none stands_twice stands_twice twice-told u.attrs a.once;
    })

-- an attribute of AS numbers of four octets that is absent
no-path : (o : Option As4Path) → AllByRecursion (λ x. is_as4 x ≡ false) (present (λ (p : As4Path). attr.As4Path p) o) → o ≡ None
no-path None none = refl
no-path (Some p) none = absurd (true≢false none.0)

no-aggregator : (o : Option Aggregator) → AllByRecursion (λ x. is_as4 x ≡ false) (present (λ (g : Aggregator). attr.As4Aggregator g) o) → o ≡ None
no-aggregator None none = refl
no-aggregator (Some g) none = absurd (true≢false none.0)

none-as4 : (a : Attrs) → list_any is_as4 (attr_list a) ≡ false → HasNoAs4 a
none-as4 a none =
    let all = none-all is_as4 (attr_list a) none in
    record {
      path = no-path a.as4_path (field-all (λ x. is_as4 x ≡ false) a AS4_PATH refl all);
      aggregator = no-aggregator a.as4_aggregator (field-all (λ x. is_as4 x ≡ false) a AS4_AGGREGATOR refl all);
    }

pub wide_update_has_no_as4 : (ctx : Context) (u : Update) → ctx.as4 ≡ true → invalid_of ctx u ≡ None → HasNoAs4 u.attrs
wide_update_has_no_as4 ctx u wide valid =
    let a = valid-accepted ctx u valid in
    none-as4 u.attrs (ap (λ (b : Bool). b && list_any is_as4 (attr_list u.attrs)) (sym wide) ∙ a.allowed)
