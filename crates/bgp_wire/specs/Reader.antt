-- Readers: functions that compute the piece at the front of octets, and all the pieces.
use Rattle.std.specs.Prelude.{◌≡◌, ◌<◌, ℕ, zero, suc, List, [], ◌∷◌, ◌++◌, length, Option, None, Some}

-- The reader finds each spelling at the front of octets, and finds nothing else.
pub record Reads {A : Type 0} (R : A → List ℕ → Type 0) (one : List ℕ → Option (A × List ℕ)) : Type 0 where
  pub not_empty : (v : A) (b : List ℕ) → R v b → 0 < length b
  pub finds : (v : A) (front back : List ℕ) → R v front → one (front ++ back) ≡ Some (v, back)
  pub gives : (b : List ℕ) (v : A) (back : List ℕ) → one b ≡ Some (v, back) → (front : List ℕ) × (b ≡ front ++ back) × R v front

-- what was found at the front of b, and then what is found later
abbrev pub then_pieces : {A : Type 0} → List ℕ → (List ℕ → List A × List ℕ) → Option (A × List ℕ) → List A × List ℕ
then_pieces b later None = ([], b)
then_pieces b later (Some found) = (found.0 ∷ (later found.1).0, (later found.1).1)

-- at most n pieces from the front, and the rest
abbrev pub pieces_within : {A : Type 0} → ℕ → (List ℕ → Option (A × List ℕ)) → List ℕ → List A × List ℕ
pieces_within zero one b = ([], b)
pieces_within (suc n) one b = then_pieces b (pieces_within n one) (one b)

-- all the pieces from the front, and the rest: no piece is empty, so there are no more of them than octets
unfoldable pub pieces : {A : Type 0} → (List ℕ → Option (A × List ℕ)) → List ℕ → List A × List ℕ
pieces one b = pieces_within (length b) one b
