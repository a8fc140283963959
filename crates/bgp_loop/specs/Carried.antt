-- The meaning of octets carried from one end of a connection to the other.
use Rattle.std.specs.Prelude.{◌≡◌, ℕ, List, Option, Some}
use Rattle.std.specs.Io.KnownBytes.{Appends, Consumes}
use Rattle.bgp_session.specs.declared.side.Side.{Side}
use Rattle.bgp_session.specs.declared.side.Side.TheVariants.{A, B}
use Rattle.bgp_loop.specs.declared.tcp.Ends.{Ends}

-- the octets sent were appended at the one end, those received were consumed at the other, and they are the same
pub record IsCarried (went came : List ℕ) (from_old from_new to_old to_new : Option (List ℕ)) : Type 0 where
  pub stand : came ≡ went
  pub appended : Appends from_old from_new went
  pub consumed : Consumes to_old to_new came

-- what an end holds of what was written to it, and what remains to be read from it, where they are known
pub record Known (S : Type 0) : Type 0 where
  pub contents : S → Option (List ℕ)
  pub remaining : S → Option (List ℕ)

abbrev pub IsCarriedOver : {S : Type 0} → Known S → S → S → S → S → List ℕ → List ℕ → Type 0
IsCarriedOver known from_old from_new to_old to_new went came =
    IsCarried went came (known.contents from_old) (known.contents from_new) (known.remaining to_old) (known.remaining to_new)

-- the octets were carried to this end of a connection from the other
abbrev pub IsPassed : {S : Type 0} → Known S → Side → Option (Ends S) → Option (Ends S) → List ℕ → List ℕ → Type 0
IsPassed known A (Some old) (Some new) went came = IsCarriedOver known old.b new.b old.a new.a went came
IsPassed known B (Some old) (Some new) went came = IsCarriedOver known old.a new.a old.b new.b went came
IsPassed known to _ _ went came = ⊥
