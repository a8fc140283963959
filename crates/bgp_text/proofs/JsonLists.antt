-- Lists of JSON whose values are made from others, and joined lists.
use Rattle.bgp_text.proofs.Prelude.{◌≡◌, ℕ, List, [], ◌∷◌, ◌++◌, map, refl, ap, sym, ◌∙◌, append_assoc, flat_map, flat_map-map, codes, flat_map-append}
use Rattle.bgp_text.proofs.Prelude.{behind_comma, joined, listed}

pub joined_map : {A B : Type 0} (json : B → List ℕ) (value : A → B) (xs : List A)
    → joined json (map value xs) ≡ joined (λ x. json (value x)) xs
unfolding joined
joined_map json value [] = refl
joined_map json value (x ∷ xs) = ap (λ (later : List ℕ). json (value x) ++ later) (flat_map-map (behind_comma json) value xs)

pub listed_map : {A B : Type 0} (json : B → List ℕ) (value : A → B) (xs : List A)
    → listed json (map value xs) ≡ listed (λ x. json (value x)) xs
listed_map json value xs = ap (λ (t : List ℕ). codes "[" ++ (t ++ codes "]")) (joined_map json value xs)

-- values after at least one
pub joined_behind : {A : Type 0} (json : A → List ℕ) (x : A) (xs ys : List A)
    → joined json ((x ∷ xs) ++ ys) ≡ joined json (x ∷ xs) ++ flat_map (behind_comma json) ys
unfolding joined
joined_behind json x xs ys =
    ap (λ (later : List ℕ). json x ++ later) (flat_map-append (behind_comma json) xs ys)
    ∙ sym (append_assoc (json x) (flat_map (behind_comma json) xs) (flat_map (behind_comma json) ys))

-- the texts of two lists, of which the first is empty
pub joined_second : {A B : Type 0} (json : A → List ℕ) (later : B → List ℕ) (xs : List A) (ys : List B)
    → xs ≡ [] → joined (λ text. text) (map json xs ++ map later ys) ≡ joined later ys
joined_second {A = A} json later xs ys none =
    ap (λ (first : List A). joined (λ text. text) (map json first ++ map later ys)) none ∙ joined_map (λ text. text) later ys

-- and where it isn't empty
pub joined_both : {A B : Type 0} (json : A → List ℕ) (later : B → List ℕ) (xs : List A) (ys : List B)
    → ¬ (xs ≡ []) → joined (λ text. text) (map json xs ++ map later ys) ≡ joined json xs ++ flat_map (behind_comma later) ys
joined_both json later [] ys some = absurd (some refl)
joined_both json later (x ∷ xs) ys some =
    joined_behind (λ text. text) (json x) (map json xs) (map later ys)
    ∙ (ap (λ (front : List ℕ). front ++ flat_map (behind_comma (λ text. text)) (map later ys)) (joined_map (λ text. text) json (x ∷ xs))
    ∙ ap (λ (behind : List ℕ). joined json (x ∷ xs) ++ behind) (flat_map-map (behind_comma (λ text. text)) later ys))
