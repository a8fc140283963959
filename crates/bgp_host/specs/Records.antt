-- The calls of a connection, a clock and an observer, where they keep a record of them.
use Rattle.std.specs.Prelude.{◌≡◌, ℕ, Bool, List, ◌++◌, Option, None, Some}
use Rattle.bgp_machine.specs.declared.state.State.{State}
use Rattle.bgp_machine.specs.declared.timer.Timer.{Timer}
use Rattle.bgp_update.specs.declared.path_info.PathInfo.{PathInfo}
use Rattle.bgp_update.specs.declared.routes.Routes.{Routes}
use Rattle.bgp_update.specs.declared.update.Update.{Update}

-- a connection was sought; these octets were to be sent; it was closed: the first two with what was returned
pub data Call : Type 0 where
  Sought : Bool → Call
  Sent : List ℕ → Bool → Call
  Closed : Call

-- a timer was started with this number of seconds, or stopped
pub data Tick : Type 0 where
  Armed : Timer → ℕ → Tick
  Disarmed : Timer → Tick

-- what happened to the peer's routes, and the state of the session
pub data Notice : Type 0 where
  Announced : Update → PathInfo → Notice
  Withdrawn : Routes → Notice
  Flushed : Notice
  Stood : State → Notice

-- these were appended to the record; nothing is claimed where none is kept
abbrev pub Grows : {A : Type 0} → Option (List A) → Option (List A) → List A → Type 0
Grows None new more = Unit {0}
Grows (Some old) None more = ⊥
Grows (Some old) (Some new) more = new ≡ old ++ more
