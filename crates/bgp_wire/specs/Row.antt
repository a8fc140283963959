-- Spellings: a value and the octets that encode it. `R v b` says that b spells v.
use Rattle.std.specs.Prelude.{◌≡◌, ◌<◌, ℕ, List, [], ◌∷◌, ◌++◌, length}

-- b is one spelling of each value, joined in order
abbrev pub Row : {A : Type 0} → (A → List ℕ → Type 0) → List A → List ℕ → Type 0
Row R [] b = b ≡ []
Row R (v ∷ vs) b = (front : List ℕ) × (back : List ℕ) × (b ≡ front ++ back) × R v front × Row R vs back

-- no spelling is empty or a proper front of another, and each has one value
pub record IsPrefixFree {A : Type 0} (R : A → List ℕ → Type 0) : Type 0 where
  pub not_empty : (v : A) (b : List ℕ) → R v b → 0 < length b
  pub one_cut : (v w : A) (a b x y : List ℕ) → R v a → R w b → a ++ x ≡ b ++ y → (a ≡ b) × (v ≡ w)

-- b is a row of the values and then the rest, and no spelling is at the front of the rest
pub record Splits {A : Type 0} (R : A → List ℕ → Type 0) (b : List ℕ) (vs : List A) (rest : List ℕ) : Type 0 where
  pub row : List ℕ
  pub spelled : Row R vs row
  pub whole : b ≡ row ++ rest
  pub stuck : (v : A) (front back : List ℕ) → R v front → rest ≡ front ++ back → ⊥
