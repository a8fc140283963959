-- Large communities without duplicates, a step at a time.
use Rattle.std.specs.Prelude.{◌≡◌, ℕ, ◌≤◌, List, [], ◌∷◌, length, take, drop, Option, None, Some}
use Rattle.bgp_wire.specs.Prelude.{pieces}
use Rattle.bgp_attr.specs.Numbers.{one_triple, triples_of, once_behind}

-- the octets up to an offset are whole triples
pub record IsRowUpTo (octets : List ℕ) (at : ℕ) : Type 0 where
  pub within : at ≤ length octets
  pub row : (pieces one_triple (take at octets)).1 ≡ []

-- the triples from an offset on, without duplicates and without those before the offset
abbrev pub new_from : List ℕ → ℕ → List (List ℕ)
new_from octets at = once_behind (triples_of (take at octets)) (triples_of (drop at octets))

-- the first of these, and the offset after it
abbrev pub GivesNew : List ℕ → ℕ → Option (List ℕ × ℕ) → Type 0
GivesNew octets from None = new_from octets from ≡ []
GivesNew octets from (Some (triple, at)) = (new_from octets from ≡ triple ∷ new_from octets at) × IsRowUpTo octets at
