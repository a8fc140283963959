-- Steps of the proof that a host carries out what its session wants. Only private functions cite them.
use Rattle.std.specs.Prelude.{◌≡◌, ◌<◌, ◌≤◌, ℕ, Bool, true, false, nat_lt, List, [], ◌∷◌, length, drop, Option, None, Some, if◌then◌else◌}
use Rattle.bgp_machine.specs.declared.action.Action.{Action}
use Rattle.bgp_machine.specs.declared.state.State.{State}
use Rattle.bgp_machine.specs.Prelude.{listens, weight}
use Rattle.bgp_host.specs.declared.link.Link.{Link}
use Rattle.bgp_host.specs.declared.link.Link.TheVariants.{Up}
use Rattle.bgp_host.specs.Records.{Notice, Stood, Grows}
use Rattle.bgp_host.specs.Deeds.{Records, CarriesOut}
use Rattle.bgp_host.specs.Turns.{Cause, Heard, Turn, link_after, turn_ticks, turn_notices, IsTurn, Hosted, Runs}

-- actions were carried out, and the state was reported after them
pub record Acts (own : List ℕ) (first : Link) (actions : List Action) (state : State) (old new : Records) (link : Link) : Type 0 where
  pub between : Option (List Notice)
  pub carried : CarriesOut own first actions old (record { calls = new.calls; ticks = new.ticks; notices = between }) link
  pub stood : Grows between new.notices (Stood state ∷ [])

-- the session was called once, for this
pub record OneTurn (cause : Cause) (old new : Hosted) (link : Link) : Type 0 where
  pub turn : Turn
  pub is_cause : turn.cause ≡ cause
  pub is_turn : IsTurn old.session turn new.session
  pub asked : Grows old.records.calls new.records.calls turn.calls
  pub ticked : Grows old.records.ticks new.records.ticks (turn_ticks turn)
  pub noticed : Grows old.records.notices new.records.notices (turn_notices turn)
  pub became : link ≡ link_after turn

-- no connection came up
abbrev pub IsNotUp : Link → Type 0
IsNotUp Up = ⊥
IsNotUp _ = Unit {0}

-- ---- octets received

-- a pull made progress
pub record PullsOn (old : Hosted) (piece : List ℕ) (n : ℕ) (new : Hosted) : Type 0 where
  pub within : n ≤ length piece
  pub lighter : weight new.session (drop n piece) < weight old.session piece
  pub runs : Runs old (Heard piece n ∷ []) new

-- a pull made none
pub record PullsNone (old : Hosted) (piece : List ℕ) (new : Hosted) : Type 0 where
  pub runs : Runs old (Heard piece 0 ∷ []) new
  pub all : listens new.session.standing.state ≡ true → piece ≡ []

-- the number of octets that a pull took, if it made progress
abbrev pub taken_by : ℕ → Bool → Option ℕ
taken_by n true = Some n
taken_by n false = if nat_lt 0 n then Some n else None

abbrev pub PullsOnce : Hosted → List ℕ → Hosted → Option ℕ → Type 0
PullsOnce old piece new None = PullsNone old piece new
PullsOnce old piece new (Some n) = PullsOn old piece n new
