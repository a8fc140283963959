-- What a session makes of a piece whose messages are judged in place.
use Rattle.std.specs.Prelude.{◌≡◌, ◌≤◌, ℕ, Bool, true, false, List, [], length, take, Option, None, Some, option_map}
use Rattle.arrayvec.specs.ArrayVec.{ArrayVec}
use Rattle.bgp_frame.specs.Hearing as hearing
use Rattle.bgp_machine.specs.declared.action.Action.{Action}
use Rattle.bgp_machine.specs.Session.{Machine, holding, hearer, HeldTakesMemory}

-- a set of actions, where there is something to be done
abbrev pub where_found : Bool → ArrayVec Action → Option (ArrayVec Action)
where_found true actions = Some actions
where_found false actions = None

-- the number of octets of a piece that a pull consumes, and what is done on them or on what was held
abbrev pub IsPulled : Machine → List ℕ → ℕ → Option (ArrayVec Action) → Machine → Type 0
IsPulled old piece n found new = hearing.IsPulled hearer old piece n (option_map (λ actions. actions.items) found) new

-- it consumes what `feed` consumes of the piece, and then does what `step` does
abbrev pub IsFedAndStepped : Machine → List ℕ → ℕ → Option (ArrayVec Action) → Machine → Type 0
IsFedAndStepped old piece n found new = hearing.IsFedAndJudged hearer old piece n (option_map (λ actions. actions.items) found) new

-- what can need an allocation where nothing is held: such a message at the beginning of the piece
pub record FrontTakesMemory (old : Machine) (piece : List ℕ) : Type 0 where
  pub none_held : old.held ≡ []
  pub n : ℕ
  pub within : n ≤ length piece
  pub takes : HeldTakesMemory (holding old (take n piece))
