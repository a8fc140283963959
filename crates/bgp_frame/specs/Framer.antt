-- What a framer holds.
use Rattle.std.specs.Prelude.{ℕ, ◌≤◌, List, length}
use Rattle.bgp_wire.specs.Prelude.{AreOctets}
use Rattle.bgp_frame.specs.Types.{Types}
use Rattle.bgp_frame.specs.Kind.{plain}
use Rattle.bgp_frame.specs.Frame.{wanted_in}

-- a framer's grammar, and the octets that it holds
pub record FramerValue (G : Type 0) : Type 0 where
  pub grammar : G
  pub octets : List ℕ

-- octets, and none after a message or a header with a fault
pub record IsHeldIn {K : Type 0} (ty : Types K) (held : List ℕ) : Type 0 where
  pub octets : AreOctets held
  pub within : length held ≤ wanted_in ty held

-- the same by the types of RFC 4271
abbrev pub IsHeld : List ℕ → Type 0
IsHeld = IsHeldIn plain
