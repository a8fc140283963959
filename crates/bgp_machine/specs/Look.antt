-- What a look at a session and a piece finds.
use Rattle.std.specs.Prelude.{◌≡◌, ◌≤◌, ◌⊎◌, ◌++◌, ℕ, true, List, [], length, take, Option, None, Some, Ok}
use Rattle.arrayvec.specs.ArrayVec.{ArrayVec}
use Rattle.bgp_frame.specs.Prelude.{Message, content_of}
use Rattle.bgp_machine.specs.declared.action.Action.{Action}
use Rattle.bgp_machine.specs.declared.heard.Heard.{Heard}
use Rattle.bgp_machine.specs.Heard.{has_routes, on_heard, IsSaid}
use Rattle.bgp_machine.specs.Pulling.{FrontTakesMemory, IsPulled}
use Rattle.bgp_machine.specs.Session.{Machine, Going, IsFed, HeldTakesMemory}
use Rattle.bgp_machine.specs.Standing.{Standing}
use Rattle.bgp_machine.specs.Table.{Step}

-- the number of octets of the piece consumed, the session at the look, and what it receives
pub record Looked : Type 0 where
  pub taken : ℕ
  pub was : Machine
  pub heard : Heard

-- a session that continues so, with nothing held
abbrev pub gone : Machine → Standing → Machine
gone old next = record { settings = old.settings; standing = next; held = [] }

abbrev pub step_of : Looked → Step
step_of l = on_heard l.was.standing l.heard

-- The look is at this session. A pull consumes the same octets, and gives what is to be done; the session continues so then. Where a message
-- is received, the views are those of its octets
pub record Finds (old : Machine) (piece : List ℕ) (l : Looked) : Type 0 where
  pub same : l.was ≡ old
  pub pulls : (actions : ArrayVec Action) → actions.items ≡ (step_of l).actions → IsPulled old piece l.taken (Some actions) (gone old (step_of l).next)
  pub within : l.taken ≤ length piece
  pub memory : has_routes l.heard ≡ true → HeldTakesMemory old ⊎ FrontTakesMemory old piece
  pub said : (m : Message) → content_of (old.held ++ take l.taken piece) ≡ Some (Ok m) → IsSaid old.settings old.standing m l.heard

-- where nothing is received, a pull does what a feed does
abbrev pub IsLook : Machine → List ℕ → Option Looked → Type 0
IsLook old piece (Some l) = Finds old piece l
IsLook old piece None = (n : ℕ) (new : Machine) → IsFed old piece n new → IsPulled old piece n None new

-- the same, with what is to be done in a set: nothing, where nothing is received
abbrev pub IsOwnLook : Machine → List ℕ → Option (ℕ × Going) → ArrayVec Action → Type 0
IsOwnLook old piece (Some (n, next)) actions = (IsPulled old piece n (Some actions) (gone old next.standing)) × (n ≤ length piece) × (next.from ≡ old)
IsOwnLook old piece None actions = ((n : ℕ) (new : Machine) → IsFed old piece n new → IsPulled old piece n None new) × (actions.items ≡ [])
