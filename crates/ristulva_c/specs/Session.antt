-- What the calls on a session do.
use Rattle.std.specs.Prelude.{◌≡◌, ◌<◌, ◌≤◌, ◌⊎◌, ℕ, List, length, Option, None, Some, Result, Ok, Err}
use Rattle.bgp_open.specs.declared.config.BadConfig.{BadConfig}
use Rattle.bgp_open.specs.Prelude.{Settings}
use Rattle.bgp_machine.specs.declared.action.Action as machine
use Rattle.bgp_machine.specs.declared.event.Event.{Event}
use Rattle.bgp_machine.specs.Prelude.{Machine, fresh, own_octets, after_event, happens}
use Rattle.ristulva_c.specs.declared.actions.Actions.{Actions}
use Rattle.ristulva_c.specs.declared.status.TheConstants.{OK, NO_SESSION, MEMORY, RANGE, ROOM, CONFIG, IN_USE}
use Rattle.ristulva_c.specs.Actions.{actions_told, octets_sent}
use Rattle.ristulva_c.specs.Copied.{copied}
use Rattle.ristulva_c.specs.States.{number_of_state}

-- a session is made where the handle has none and settings are allowed, unless an allocation failed
abbrev pub IsMade : Result Settings BadConfig → Option Machine → ℕ → Option Machine → Type 0
IsMade settings (Some old) status new = (status ≡ IN_USE) × (new ≡ Some old)
IsMade (Err bad) None status new = (status ≡ CONFIG) × (new ≡ None)
IsMade (Ok s) None status new = ((status ≡ OK) × (new ≡ Some (fresh s))) ⊎ ((status ≡ MEMORY) × (new ≡ None))

abbrev pub IsFreed : Option Machine → ℕ → Option Machine → Type 0
IsFreed None status new = (status ≡ NO_SESSION) × (new ≡ None)
IsFreed (Some old) status new = (status ≡ OK) × (new ≡ None)

-- the state is written; where there is no session, nothing is
abbrev pub IsStateTold : Option Machine → ℕ → ℕ → ℕ → Type 0
IsStateTold None status before behind = (status ≡ NO_SESSION) × (behind ≡ before)
IsStateTold (Some x) status before behind = (status ≡ OK) × (behind ≡ number_of_state x.standing.state)

-- ---- what is done

-- what a call has: its status, and the caller's memory before and after it
pub record Answer : Type 0 where
  pub status : ℕ
  pub old : Option Machine
  pub new : Option Machine
  pub actions_before : Actions
  pub actions_behind : Actions
  pub message_before : List ℕ
  pub message_behind : List ℕ
  pub len_before : ℕ
  pub len_behind : ℕ

-- nothing is changed
pub record IsLeft (answer : ℕ) (a : Answer) : Type 0 where
  pub status : a.status ≡ answer
  pub session : a.new ≡ a.old
  pub actions : a.actions_behind ≡ a.actions_before
  pub message : a.message_behind ≡ a.message_before
  pub len : a.len_behind ≡ a.len_before

-- these actions are to be done, the message that they send is written to the buffer, and the session continues so
pub record IsDone (settings : Settings) (done : List machine.Action) (next : Machine) (a : Answer) : Type 0 where
  pub status : a.status ≡ OK
  pub session : a.new ≡ Some next
  pub actions : a.actions_behind ≡ actions_told done
  pub message : a.message_behind ≡ copied (octets_sent (own_octets settings) done) a.message_before
  pub len : a.len_behind ≡ length (octets_sent (own_octets settings) done)

-- a session does this on an event
abbrev pub Follows : Option Event → Option Machine → Answer → Type 0
Follows None old a = IsLeft RANGE a
Follows (Some event) None a = IsLeft NO_SESSION a
Follows (Some event) (Some x) a = IsDone x.settings (happens x.standing event).actions (after_event x event) a

-- a buffer has room for each message, or nothing is done
abbrev pub WithRoom : (Answer → Type 0) → Answer → Type 0
WithRoom Does a = ((4096 ≤ length a.message_before) × Does a) ⊎ ((length a.message_before < 4096) × IsLeft ROOM a)
