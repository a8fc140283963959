-- Families that are kept, and those that capabilities offer.
use Rattle.bgp_wire.proofs.Std.{◌≡◌, ℕ, zero, suc, ◌+◌, ◌<◌, ◌≤◌, Bool, true, false, cond, Option, None, List, [], ◌∷◌, ◌++◌, length, take, set, refl, sym, ap, subst, ◌∙◌, arith, append_assoc}
use Rattle.std.proofs.lemmas.List.{append-nil, length-append, length-take, take_all, take_more_set, take-append-le}
use Rattle.std.specs.List.{filter}
use Rattle.bgp_terms.specs.declared.family.Family.{Family}
use Rattle.bgp_terms.specs.Prelude.{also_family, one_or_none, sharing}

-- families cut off before have no effect on what is kept
pub take-front : (n : ℕ) (a b : List Family) → take n (take n a ++ b) ≡ take n (a ++ b)
take-front zero a b = refl
take-front (suc n) [] b = refl
take-front (suc n) (x ∷ a) b = ap (λ (l : List Family). x ∷ l) (take-front n a b)

take-twice : (n : ℕ) (a : List Family) → take n (take n a) ≡ take n a
take-twice zero a = refl
take-twice (suc n) [] = refl
take-twice (suc n) (x ∷ a) = ap (λ (l : List Family). x ∷ l) (take-twice n a)

pub kept-again : (fs more : List Family) → take 42 (also_family fs more) ≡ also_family fs more
kept-again fs more = take-twice 42 (fs ++ more)

pub all_kept : (fs : List Family) → length fs ≤ 42 → fs ≡ also_family fs []
all_kept fs few = sym (ap (take 42) (append-nil fs) ∙ take_all 42 fs few)

few_kept : (list : List Family) (len : ℕ) → len ≤ 42 → length (take len list) ≤ 42
few_kept list len within = let l = length-take len list in omega arith

pub none_offered : (list : List Family) (len : ℕ) (o : Option Family) → len ≤ 42 → None ≡ o → take len list ≡ also_family (take len list) (one_or_none o)
none_offered list len o within none = subst (λ (x : Option Family). take len list ≡ also_family (take len list) (one_or_none x)) none (all_kept (take len list) (few_kept list len within))

-- a store after the families that are kept
pub one_more : (list : List Family) (len : ℕ) (family : Family) → len < 42 → length list ≡ 42 → take (len + 1) (set list len family) ≡ also_family (take len list) (family ∷ [])
one_more list len family room size =
    let l = length-take len list in
    let more = length-append (take len list) (family ∷ []) in
    take_more_set list len family (omega arith) ∙ sym (take_all 42 (take len list ++ family ∷ []) (omega arith))

-- no room is left
pub no_more : (list : List Family) (len : ℕ) (family : Family) → 42 ≤ len → len ≤ 42 → length list ≡ 42 → take len list ≡ also_family (take len list) (family ∷ [])
no_more list len family full within size =
    let l = length-take len list in
    sym (take-append-le 42 (take len list) (family ∷ []) (omega arith) ∙ take_all 42 (take len list) (omega arith))

-- ---- the families that both offer

sharing-one : (test : Family → Bool) (fs : List Family) (family : Family) (later : List Family)
    → ((gs : List Family) → take 42 gs ≡ gs → sharing test gs later ≡ take 42 (gs ++ filter test later)) → (t : Bool) → take 42 fs ≡ fs
    → sharing test (cond t (also_family fs (family ∷ [])) fs) later ≡ take 42 (fs ++ cond t (family ∷ filter test later) (filter test later))
sharing-one test fs family later rest true kept =
    rest (also_family fs (family ∷ [])) (kept-again fs (family ∷ []))
    ∙ take-front 42 (fs ++ family ∷ []) (filter test later)
    ∙ ap (take 42) (append_assoc fs (family ∷ []) (filter test later))
sharing-one test fs family later rest false kept = rest fs kept

sharing-kept : (test : Family → Bool) (fs list : List Family) → take 42 fs ≡ fs → sharing test fs list ≡ take 42 (fs ++ filter test list)
sharing-kept test fs [] kept = sym (ap (take 42) (append-nil fs) ∙ kept)
sharing-kept test fs (family ∷ later) kept = sharing-one test fs family later (λ gs k. sharing-kept test gs later k) (test family) kept

fewer-one : (t : Bool) (family : Family) (some list : List Family) → length some ≤ length list → length (cond t (family ∷ some) some) ≤ length (family ∷ list)
fewer-one true family some list le = omega (arith, le)
fewer-one false family some list le = omega (arith, le)

fewer : (test : Family → Bool) (list : List Family) → length (filter test list) ≤ length list
fewer test [] = omega arith
fewer test (family ∷ later) = fewer-one (test family) family (filter test later) later (fewer test later)

sharing-all : (test : Family → Bool) (list : List Family) (len : ℕ) → len ≤ 42 → sharing test [] (take len list) ≡ filter test (take len list)
sharing-all test list len within =
    let few = few_kept list len within in
    let less = fewer test (take len list) in
    sharing-kept test [] (take len list) refl ∙ take_all 42 (filter test (take len list)) (omega arith)

pub sharing-init : (test : Family → Bool) (fs items list : List Family) (len : ℕ) → len ≤ 42 → fs ≡ [] → items ≡ take len list → sharing test fs items ≡ filter test (take len list)
sharing-init test fs items list len within none these = rw (none, these) (sharing-all test list len within)
