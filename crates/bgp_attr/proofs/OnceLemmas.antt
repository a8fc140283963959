-- Triples without duplicates: nothing is dropped where none repeats, and what is left has no repeats.
use Rattle.bgp_wire.proofs.Std.{◌≡◌, ℕ, ◌<◌, ◌≤◌, true, false, ◌||◌, ◌&&◌, eqb, List, [], ◌∷◌, ◌++◌, length, refl, sym, ap, subst, ◌∙◌, append_assoc, arith, list_any, AllByRecursion, false≢true, both_ways, and_parts, or_parts, or_from, cond-false, cond_both, false_from_ne_true, list_any-append}
use Rattle.std.proofs.lemmas.Bool.{eqb-true}
use Rattle.std.proofs.lemmas.List.{append-nil}
use Rattle.bgp_attr.specs.Prelude.{same_triple, once_behind, each_once, repeats}

-- ---- the test of two triples

pub same-equal : (x y : List ℕ) → same_triple x y ≡ true → x ≡ y
same-equal (a ∷ b ∷ c ∷ []) (x ∷ y ∷ z ∷ []) e =
    let p = and_parts (eqb a x) (eqb b y && eqb c z) e in
    let q = and_parts (eqb b y) (eqb c z) p.1 in
    rw (eqb-true a x p.0, eqb-true b y q.0, eqb-true c z q.1) refl
same-equal [] y e = absurd (false≢true e)
same-equal (a ∷ []) y e = absurd (false≢true e)
same-equal (a ∷ b ∷ []) y e = absurd (false≢true e)
same-equal (a ∷ b ∷ c ∷ d ∷ x) y e = absurd (false≢true e)
same-equal (a ∷ b ∷ c ∷ []) [] e = absurd (false≢true e)
same-equal (a ∷ b ∷ c ∷ []) (x ∷ []) e = absurd (false≢true e)
same-equal (a ∷ b ∷ c ∷ []) (x ∷ y ∷ []) e = absurd (false≢true e)
same-equal (a ∷ b ∷ c ∷ []) (x ∷ y ∷ z ∷ w ∷ v) e = absurd (false≢true e)

pub same-swaps : (x y : List ℕ) → same_triple x y ≡ true → same_triple y x ≡ true
same-swaps x y e =
    let equal : x ≡ y = same-equal x y e in
    subst (λ (z : List ℕ). same_triple z x ≡ true) equal (subst (λ (z : List ℕ). same_triple x z ≡ true) (sym equal) e)

pub other-swaps : (x y : List ℕ) → same_triple x y ≡ false → same_triple y x ≡ false
other-swaps x y e = false_from_ne_true (same_triple y x) (λ same. both_ways (same_triple x y) e (same-swaps y x same))

-- none of the triples is among those before
abbrev pub NotAmong : List (List ℕ) → List (List ℕ) → Type 0
NotAmong before xs = AllByRecursion (λ x. list_any (same_triple x) before ≡ false) xs

among_none : (xs : List (List ℕ)) → NotAmong [] xs
among_none [] = tt
among_none (x ∷ xs) = (refl, among_none xs)

-- ---- nothing is dropped

one_more : (x : List ℕ) (before xs : List (List ℕ)) → NotAmong before xs → list_any (same_triple x) xs ≡ false → NotAmong (before ++ x ∷ []) xs
one_more x before [] n e = tt
one_more x before (y ∷ xs) n e =
    let p = or_parts (same_triple x y) (list_any (same_triple x) xs) e in
    let head : list_any (same_triple y) (before ++ x ∷ []) ≡ false = list_any-append (same_triple y) before (x ∷ []) ∙ or_from _ _ n.0 (or_from _ _ (other-swaps x y p.0) refl) in
    (head, one_more x before xs n.1 p.1)

once-same : (before xs : List (List ℕ)) → NotAmong before xs → repeats xs ≡ false → once_behind before xs ≡ xs
once-same before [] n e = refl
once-same before (x ∷ xs) n e =
    let p = or_parts (list_any (same_triple x) xs) (repeats xs) e in
    cond-false (list_any (same_triple x) before) (once_behind (before ++ x ∷ []) xs) (x ∷ once_behind (before ++ x ∷ []) xs) n.0
    ∙ ap (λ (ys : List (List ℕ)). x ∷ ys) (once-same (before ++ x ∷ []) xs (one_more x before xs n.1 p.0) p.1)

pub each_once-same : (xs : List (List ℕ)) → repeats xs ≡ false → each_once xs ≡ xs
each_once-same xs e = once-same [] xs (among_none xs) e

-- ---- what is left

not_first : (first more xs : List (List ℕ)) → NotAmong first (once_behind (first ++ more) xs)
not_first first more [] = tt
not_first first more (x ∷ xs) =
    let later : NotAmong first (once_behind ((first ++ more) ++ x ∷ []) xs) =
    subst (λ (b : List (List ℕ)). NotAmong first (once_behind b xs)) (sym (append_assoc first more (x ∷ []))) (not_first first (more ++ x ∷ []) xs) in
    cond_both (list_any (same_triple x) (first ++ more)) (once_behind ((first ++ more) ++ x ∷ []) xs) (x ∷ once_behind ((first ++ more) ++ x ∷ []) xs) (λ ys. NotAmong first ys)
    (λ e. later) (λ e. ((or_parts (list_any (same_triple x) first) (list_any (same_triple x) more) (sym (list_any-append (same_triple x) first more) ∙ e)).0, later))

other_from : (x : List ℕ) (before ys : List (List ℕ)) → NotAmong (before ++ x ∷ []) ys → list_any (same_triple x) ys ≡ false
other_from x before [] n = refl
other_from x before (y ∷ ys) n =
    let p = or_parts (list_any (same_triple y) before) (same_triple y x || false) (sym (list_any-append (same_triple y) before (x ∷ [])) ∙ n.0) in
    let q = or_parts (same_triple y x) false p.1 in
    or_from (same_triple x y) (list_any (same_triple x) ys) (other-swaps y x q.0) (other_from x before ys n.1)

once-repeats : (before xs : List (List ℕ)) → repeats (once_behind before xs) ≡ false
once-repeats before [] = refl
once-repeats before (x ∷ xs) =
    let ys : List (List ℕ) = once_behind (before ++ x ∷ []) xs in
    let apart : NotAmong (before ++ x ∷ []) ys =
    subst (λ (b : List (List ℕ)). NotAmong (before ++ x ∷ []) (once_behind b xs)) (append-nil (before ++ x ∷ [])) (not_first (before ++ x ∷ []) [] xs) in
    let later : repeats ys ≡ false = once-repeats (before ++ x ∷ []) xs in
    cond_both (list_any (same_triple x) before) ys (x ∷ ys) (λ zs. repeats zs ≡ false)
    (λ e. later) (λ e. or_from _ _ (other_from x before ys apart) later)

pub each_once-repeats : (xs : List (List ℕ)) → repeats (each_once xs) ≡ false
each_once-repeats xs = once-repeats [] xs

once-all : (P : List ℕ → Type 0) (before xs : List (List ℕ)) → AllByRecursion P xs → AllByRecursion P (once_behind before xs)
once-all P before [] all = tt
once-all P before (x ∷ xs) all =
    cond_both (list_any (same_triple x) before) (once_behind (before ++ x ∷ []) xs) (x ∷ once_behind (before ++ x ∷ []) xs) (λ ys. AllByRecursion P ys)
    (λ e. once-all P (before ++ x ∷ []) xs all.1) (λ e. (all.0, once-all P (before ++ x ∷ []) xs all.1))

-- what holds of each triple holds of each that is left
pub each_once-all : (P : List ℕ → Type 0) (xs : List (List ℕ)) → AllByRecursion P xs → AllByRecursion P (each_once xs)
each_once-all P xs all = once-all P [] xs all

once-shorter : (before xs : List (List ℕ)) → length (once_behind before xs) ≤ length xs
once-shorter before [] = omega arith
once-shorter before (x ∷ xs) =
    let later : length (once_behind (before ++ x ∷ []) xs) ≤ length xs = once-shorter (before ++ x ∷ []) xs in
    cond_both (list_any (same_triple x) before) (once_behind (before ++ x ∷ []) xs) (x ∷ once_behind (before ++ x ∷ []) xs) (λ ys. length ys ≤ length (x ∷ xs))
    (λ e. omega arith) (λ e. omega arith)

pub each_once-shorter : (xs : List (List ℕ)) → length (each_once xs) ≤ length xs
each_once-shorter xs = once-shorter [] xs

-- the first triple is left
pub each_once-some : (xs : List (List ℕ)) → 0 < length xs → 0 < length (each_once xs)
each_once-some [] some = omega arith
each_once-some (x ∷ xs) some = omega arith
