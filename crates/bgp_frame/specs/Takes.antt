-- The number of octets of a piece that are consumed after those that are held.
use Rattle.std.specs.Prelude.{◌≡◌, ℕ, ◌<◌, ◌≤◌, ◌⊎◌, List, ◌++◌, length, take}
use Rattle.bgp_frame.specs.Types.{Types}
use Rattle.bgp_frame.specs.Kind.{plain}
use Rattle.bgp_frame.specs.Frame.{IsWholeIn, IsFaultyIn}

module _ {K : Type 0} (ty : Types K) where
  -- b is a whole message, or a header with a fault: no further octet is consumed
  abbrev pub StopsIn : List ℕ → Type 0
  StopsIn b = IsWholeIn ty b ⊎ IsFaultyIn ty b

  -- octets are consumed one after another until what is held stops, or the piece ends
  pub record TakesIn (held piece : List ℕ) (n : ℕ) : Type 0 where
    pub within : n ≤ length piece
    pub no_sooner : (k : ℕ) → k < n → StopsIn (held ++ take k piece) → ⊥
    pub all_or_stops : (n ≡ length piece) ⊎ StopsIn (held ++ take n piece)

-- ---- by the types of RFC 4271

abbrev pub Stops : List ℕ → Type 0
Stops = StopsIn plain

abbrev pub Takes : List ℕ → List ℕ → ℕ → Type 0
Takes = TakesIn plain
