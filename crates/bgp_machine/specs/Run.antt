-- Pieces that a session receives, each by call after call until one gives nothing more.
use Rattle.std.specs.Prelude.{◌≡◌, ℕ, List, Option, None, Some}
use Rattle.bgp_frame.specs.Hearing as hearing
use Rattle.bgp_frame.specs.Prelude.{CanBeHeard}
use Rattle.bgp_machine.specs.declared.action.Action.{Action}
use Rattle.bgp_machine.specs.Look.{Looked, IsLook, gone, step_of}
use Rattle.bgp_machine.specs.Session.{Machine, IsFed, hearer}

-- by `pull` or `pull_into`
abbrev pub by_pull : Machine → List ℕ → ℕ → Option (List Action) → Machine → Type 0
by_pull x piece n found y = hearing.IsPulled hearer x piece n found y

-- a look finds nothing, and the piece is fed
pub record LooksAndFeeds (x : Machine) (piece : List ℕ) (n : ℕ) (y : Machine) : Type 0 where
  pub finds : IsLook x piece None
  pub feeds : IsFed x piece n y

-- a look finds something, and the session continues after it
pub record LooksAndGoes (x : Machine) (piece : List ℕ) (n : ℕ) (actions : List Action) (y : Machine) : Type 0 where
  pub looked : Looked
  pub finds : IsLook x piece (Some looked)
  pub takes : n ≡ looked.taken
  pub does : actions ≡ (step_of looked).actions
  pub goes : y ≡ gone x (step_of looked).next

-- by `look`, with `go` after it, or `feed`
abbrev pub by_look : Machine → List ℕ → ℕ → Option (List Action) → Machine → Type 0
by_look x piece n None y = LooksAndFeeds x piece n y
by_look x piece n (Some actions) y = LooksAndGoes x piece n actions y

-- octets that arrive in these pieces can be pulled in some number of calls
abbrev pub CanBePulled : Machine → List (List ℕ) → Type 0
CanBePulled x pieces = CanBeHeard by_pull x pieces
