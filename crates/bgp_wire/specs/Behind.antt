-- A row after its length in octets, or after its count of values, and the readers of both.
use Rattle.std.specs.Prelude.{◌≡◌, ◌==◌, ℕ, List, [], ◌∷◌, length, take, drop, Option, None, Some, nat_le, if◌then◌else◌}
use Rattle.bgp_wire.specs.Row.{Row}
use Rattle.bgp_wire.specs.Then.{◌>>=◌}
use Rattle.bgp_wire.specs.Reader.{pieces, pieces_within}

-- an octet with the length of the row, and the row
pub record BehindLength {A : Type 0} (R : A → List ℕ → Type 0) (vs : List A) (b : List ℕ) : Type 0 where
  pub row : List ℕ
  pub octets : b ≡ length row ∷ row
  pub spelled : Row R vs row

-- an octet with the number of values, and the row
pub record BehindCount {A : Type 0} (R : A → List ℕ → Type 0) (vs : List A) (b : List ℕ) : Type 0 where
  pub row : List ℕ
  pub octets : b ≡ length vs ∷ row
  pub spelled : Row R vs row

-- the first n octets and what follows them, unless there are fewer
abbrev pub first_octets : ℕ → List ℕ → Option (List ℕ × List ℕ)
first_octets n b = if nat_le n (length b) then Some (take n b, drop n b) else None

-- reads a length, and the row of that many octets, all of which are read
unfoldable pub behind_length : {A : Type 0} → (List ℕ → Option (A × List ℕ)) → List ℕ → Option (List A × List ℕ)
behind_length one [] = None
behind_length one (n ∷ b) = do
  row ← first_octets n b
  if length (pieces one row.0).1 == 0 then Some ((pieces one row.0).0, row.1) else None

-- reads a count, and that number of values
unfoldable pub behind_count : {A : Type 0} → (List ℕ → Option (A × List ℕ)) → List ℕ → Option (List A × List ℕ)
behind_count one [] = None
behind_count one (n ∷ b) = if length (pieces_within n one b).0 == n then Some (pieces_within n one b) else None
