-- Lists that are joined, searched and tested: what the other lemmas say of attributes, for lists of anything.
use Rattle.bgp_wire.proofs.Std.{◌≡◌, ℕ, ◌+◌, ◌<◌, ◌≤◌, Bool, true, false, not, ◌||◌, cond, eqb, List, [], ◌∷◌, ◌++◌, length, get_or, take, map, Option, Some, None, inl, inr, refl, sym, ap, ap₂, subst, ◌∙◌, flat_map, filter, find, list_any, AllByRecursion, option_or, find-append, false≢true, or_parts, or_cases, or_from, map-append, take_more, append_assoc}
use Rattle.std.proofs.lemmas.List.{append-nil, take_all}
use Rattle.std.specs.Prelude.{is_none}
use Rattle.std.proofs.lemmas.Bool.{eqb-true, ne_eqb}
use Rattle.std.proofs.lemmas.Bool.Decides.{eqb_tells}

pub eqb-swap : (a b : ℕ) → eqb a b ≡ eqb b a
eqb-swap a b = elim (eqb_tells a b) [
  | inl same ↦ ap₂ eqb same.1 (sym same.1)
  | inr other ↦ other.0 ∙ sym (ne_eqb b a (λ (e : b ≡ a). other.1 (sym e)))
]

module _ {A : Type 0} where
  pub or-none : (o : Option A) → option_or o None ≡ o
  or-none None = refl
  or-none (Some x) = refl

  pub find-none : (test : A → Bool) (xs : List A) → list_any test xs ≡ false → find test xs ≡ None
  find-none test [] e = refl
  find-none test (x ∷ xs) e =
      let p = or_parts (test x) (list_any test xs) e in
      ap (λ (t : Bool). cond t (Some x) (find test xs)) p.0 ∙ find-none test xs p.1

  -- an element that is found passes the test, and has what each element has
  find-by : (test : A → Bool) (x y : A) (xs : List A) (t : Bool) → test x ≡ t → (find test xs ≡ Some y → test y ≡ true) → cond t (Some x) (find test xs) ≡ Some y → test y ≡ true
  find-by test x y xs true e later f = let same : x ≡ y = cc in ap test (sym same) ∙ e
  find-by test x y xs false e later f = later f

  pub find-passes : (test : A → Bool) (xs : List A) (y : A) → find test xs ≡ Some y → test y ≡ true
  find-passes test [] y e = absurd cc
  find-passes test (x ∷ xs) y e = find-by test x y xs (test x) refl (find-passes test xs y) e

  pub none-found : (test : A → Bool) (xs : List A) → is_none (find test xs) ≡ not (list_any test xs)
  none-found test [] = refl
  none-found test (x ∷ xs) = by (test x) (none-found test xs)
    where
      by : (t : Bool) → is_none (find test xs) ≡ not (list_any test xs) → is_none (cond t (Some x) (find test xs)) ≡ not (t || list_any test xs)
      by true later = refl
      by false later = later

  -- two tests that agree find the same element
  pub find-same : (test other : A → Bool) (xs : List A) → AllByRecursion (λ x. test x ≡ other x) xs → find test xs ≡ find other xs
  find-same test other [] same = refl
  find-same test other (x ∷ xs) same = ap₂ (λ (t : Bool) (o : Option A). cond t (Some x) o) same.0 (find-same test other xs same.1)

  pub all-none : (test : A → Bool) (xs : List A) → AllByRecursion (λ x. test x ≡ false) xs → list_any test xs ≡ false
  all-none test [] all = refl
  all-none test (x ∷ xs) all = or_from (test x) (list_any test xs) all.0 (all-none test xs all.1)

  pub none-all : (test : A → Bool) (xs : List A) → list_any test xs ≡ false → AllByRecursion (λ x. test x ≡ false) xs
  none-all test [] e = tt
  none-all test (x ∷ xs) e = let p = or_parts (test x) (list_any test xs) e in (p.0, none-all test xs p.1)

  pub all-append : (P : A → Type 0) (xs ys : List A) → AllByRecursion P xs → AllByRecursion P ys → AllByRecursion P (xs ++ ys)
  all-append P [] ys p q = q
  all-append P (x ∷ xs) ys p q = (p.0, all-append P xs ys p.1 q)

  pub all-front : (P : A → Type 0) (xs ys : List A) → AllByRecursion P (xs ++ ys) → AllByRecursion P xs
  all-front P [] ys p = tt
  all-front P (x ∷ xs) ys p = (p.0, all-front P xs ys p.1)

  pub all-back : (P : A → Type 0) (xs ys : List A) → AllByRecursion P (xs ++ ys) → AllByRecursion P ys
  all-back P [] ys p = p
  all-back P (x ∷ xs) ys p = all-back P xs ys p.1

  pub all-more : (P Q : A → Type 0) (xs : List A) → ((x : A) → P x → Q x) → AllByRecursion P xs → AllByRecursion Q xs
  all-more P Q [] more p = tt
  all-more P Q (x ∷ xs) more p = (more x p.0, all-more P Q xs more p.1)

  pub all-both : (P Q R : A → Type 0) (xs : List A) → ((x : A) → P x → Q x → R x) → AllByRecursion P xs → AllByRecursion Q xs → AllByRecursion R xs
  all-both P Q R [] more p q = tt
  all-both P Q R (x ∷ xs) more p q = (more x p.0 q.0, all-both P Q R xs more p.1 q.1)

module _ {A B : Type 0} where
  pub flat_map-same : (f g : A → List B) (xs : List A) → ((x : A) → f x ≡ g x) → flat_map f xs ≡ flat_map g xs
  flat_map-same f g [] same = refl
  flat_map-same f g (x ∷ xs) same = ap₂ (λ (a b : List B). a ++ b) (same x) (flat_map-same f g xs same)

  pub flat_map-all_none : (f : A → List B) (xs : List A) → AllByRecursion (λ x. f x ≡ []) xs → flat_map f xs ≡ []
  flat_map-all_none f [] none = refl
  flat_map-all_none f (x ∷ xs) none = ap₂ (λ (a b : List B). a ++ b) none.0 (flat_map-all_none f xs none.1)

  pub flat_map-none : (f : A → List B) (xs : List A) → ((x : A) → f x ≡ []) → flat_map f xs ≡ []
  flat_map-none f [] none = refl
  flat_map-none f (x ∷ xs) none = ap₂ (λ (a b : List B). a ++ b) (none x) (flat_map-none f xs none)

  -- elements that yield nothing can be filtered out
  filter-by : (f : A → List B) (test : A → Bool) (x : A) (xs : List A) (t : Bool) → test x ≡ t → (t ≡ false → f x ≡ []) → flat_map f (filter test xs) ≡ flat_map f xs
      → flat_map f (cond t (x ∷ filter test xs) (filter test xs)) ≡ f x ++ flat_map f xs
  filter-by f test x xs true e none later = ap (λ (b : List B). f x ++ b) later
  filter-by f test x xs false e none later = later ∙ ap (λ (b : List B). b ++ flat_map f xs) (sym (none refl))

  pub flat_map-filter : (f : A → List B) (test : A → Bool) (xs : List A) → ((x : A) → test x ≡ false → f x ≡ []) → flat_map f (filter test xs) ≡ flat_map f xs
  flat_map-filter f test [] none = refl
  flat_map-filter f test (x ∷ xs) none = filter-by f test x xs (test x) refl (none x) (flat_map-filter f test xs none)

  pub all-flat_map : (P : B → Type 0) (f : A → List B) (xs : List A) → ((x : A) → AllByRecursion P (f x)) → AllByRecursion P (flat_map f xs)
  all-flat_map P f [] each = tt
  all-flat_map P f (x ∷ xs) each = all-append P (f x) (flat_map f xs) (each x) (all-flat_map P f xs each)

-- ---- lists by number, one after another

module _ {A : Type 0} where
  -- what holds of all elements holds of those of one number
  pub all-among : (P : A → Type 0) (f : ℕ → List A) (kind : ℕ) (ks : List ℕ) → list_any (λ k. eqb k kind) ks ≡ true → AllByRecursion P (flat_map f ks) → AllByRecursion P (f kind)
  all-among P f kind [] e all = absurd (false≢true e)
  all-among P f kind (k ∷ ks) e all = elim (or_cases (eqb k kind) (list_any (λ j. eqb j kind) ks) e) [
    | inl same ↦ subst (λ (j : ℕ). AllByRecursion P (f j)) (eqb-true k kind same) (all-front P (f k) (flat_map f ks) all)
    | inr later ↦ all-among P f kind ks later (all-back P (f k) (flat_map f ks) all)
  ]

  -- what carries over from the elements of each number to those of the same number in another list carries over from all to all
  pub all-carried : (P Q : A → Type 0) (f g : ℕ → List A) (ks : List ℕ) → ((k : ℕ) → AllByRecursion P (f k) → AllByRecursion Q (g k)) → AllByRecursion P (flat_map f ks) → AllByRecursion Q (flat_map g ks)
  all-carried P Q f g [] each all = tt
  all-carried P Q f g (k ∷ ks) each all =
      all-append Q (g k) (flat_map g ks) (each k (all-front P (f k) (flat_map f ks) all)) (all-carried P Q f g ks each (all-back P (f k) (flat_map f ks) all))

  -- where none of another number passes, an element that is found is found among those of the number
  pub find-among : (test : A → Bool) (f : ℕ → List A) (kind : ℕ) (ks : List ℕ) → ((k : ℕ) → eqb k kind ≡ false → find test (f k) ≡ None)
      → find test (flat_map f ks) ≡ cond (list_any (λ k. eqb k kind) ks) (find test (f kind)) None
  find-among test f kind [] apart = refl
  find-among test f kind (k ∷ ks) apart =
      find-append test (f k) (flat_map f ks) ∙ ap (λ (o : Option A). option_or (find test (f k)) o) (find-among test f kind ks apart) ∙ by (eqb k kind) refl (list_any (λ j. eqb j kind) ks)
    where
      twice : (o : Option A) (b : Bool) → option_or o (cond b o None) ≡ o
      twice None true = refl
      twice None false = refl
      twice (Some x) b = refl

      by : (t : Bool) → eqb k kind ≡ t → (b : Bool) → option_or (find test (f k)) (cond b (find test (f kind)) None) ≡ cond (t || b) (find test (f kind)) None
      by true e b = ap (λ (j : ℕ). option_or (find test (f j)) (cond b (find test (f kind)) None)) (eqb-true k kind e) ∙ twice (find test (f kind)) b
      by false e b = ap (λ (o : Option A). option_or o (cond b (find test (f kind)) None)) (apart k e)

-- the results of those so far, with one more, and of all
module _ {X Y : Type 0} (f : X → Y) (xs : List X) (i : ℕ) where
  pub one_mapped : (x : X) (y : Y) (now new : List Y) → i < length xs → x ≡ get_or xs i x → y ≡ f x → now ≡ map f (take i xs) → new ≡ now ++ y ∷ [] → new ≡ map f (take (i + 1) xs)
  one_mapped x y now new lt is made so_far more =
      more ∙ ap₂ (λ (b : List Y) (z : Y). b ++ z ∷ []) so_far made ∙ sym (map-append f (take i xs) (x ∷ []))
      ∙ ap (map f) (sym (take_more xs i x lt ∙ ap (λ (z : X). take i xs ++ z ∷ []) (sym is)))

  pub all_mapped : (now : List Y) → length xs ≤ i → now ≡ map f (take i xs) → now ≡ map f xs
  all_mapped now le so_far = so_far ∙ ap (map f) (take_all i xs le)

-- what is collected and what is left, with one more and with no more
module _ {X : Type 0} (now left whole : List X) (so_far : now ++ left ≡ whole) where
  pub one_taken : (x : X) (later new : List X) → left ≡ x ∷ later → new ≡ now ++ x ∷ [] → new ++ later ≡ whole
  one_taken x later new are more = ap (λ (b : List X). b ++ later) more ∙ append_assoc now (x ∷ []) later ∙ ap (λ (b : List X). now ++ b) (sym are) ∙ so_far

  pub none_left : left ≡ [] → now ≡ whole
  none_left none = sym (append-nil now) ∙ ap (λ (b : List X). now ++ b) (sym none) ∙ so_far
