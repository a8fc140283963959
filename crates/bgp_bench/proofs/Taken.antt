-- What is consumed of a piece lies within it.
use Rattle.std.proofs.Common.{◌≤◌, ℕ, List, length, Option}
use Rattle.arrayvec.specs.ArrayVec.{ArrayVec}
use Rattle.bgp_machine.specs.Pulling as pulling
use Rattle.bgp_machine.specs.Session as session
use Rattle.bgp_machine.specs.declared.action.Action.{Action}
use Rattle.bgp_frame.proofs.Hearings.{counts_within}
use Rattle.bgp_frame.specs.Kind.{plain}
use Rattle.bgp_frame.specs.steps.AreTypes.{plain-are}

pub session_takes_within : (old : session.Machine) (piece : List ℕ) (n : ℕ) (found : Option (ArrayVec Action)) (new : session.Machine)
    → pulling.IsFedAndStepped old piece n found new → n ≤ length piece
session_takes_within old piece n found new pulled = counts_within plain plain-are _ old.held piece n pulled.fed.0
