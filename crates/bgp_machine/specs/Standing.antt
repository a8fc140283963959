-- The state of a session (RFC 4271, section 8).
use Rattle.std.specs.Prelude.{ℕ, Bool, true, false, Option, None, Some}
use Rattle.bgp_open.specs.declared.context.Context.{Context}
use Rattle.bgp_open.specs.Prelude.{Said, said_of}
use Rattle.bgp_machine.specs.declared.phase.Phase.{Phase}
use Rattle.bgp_machine.specs.declared.state.State.{State}
use Rattle.bgp_machine.specs.declared.timer.Timer.{Timer}
use Rattle.bgp_machine.specs.declared.timer.Timers.{Timers}

-- ---- timers

abbrev pub no_timers : Timers
no_timers = record { retry = false; hold = false; keepalive = false }

abbrev pub runs : Timers → Timer → Bool
runs t Timer.Retry = t.retry
runs t Timer.Hold = t.hold
runs t Timer.Keepalive = t.keepalive

-- the timers, of which this one is started or stopped
abbrev pub timers_with : Timer → Bool → Timers → Timers
timers_with Timer.Retry on t = record { retry = on; hold = t.hold; keepalive = t.keepalive }
timers_with Timer.Hold on t = record { retry = t.retry; hold = on; keepalive = t.keepalive }
timers_with Timer.Keepalive on t = record { retry = t.retry; hold = t.hold; keepalive = on }

-- ---- the state, what both agreed on and what the peer's OPEN says, and the timers that run

pub record Standing : Type 0 where
  pub state : State
  pub context : Option Context
  pub peer : Option Said
  pub running : Timers

-- a session before its first event
abbrev pub idle : Standing
idle = record { state = State.Idle; context = None; peer = None; running = no_timers }

-- a session with what its peer's OPEN says, and what both agreed on
abbrev pub agreed : Standing → Said → Context → Standing
agreed x peer ctx = record { state = x.state; context = Some ctx; peer = Some peer; running = x.running }

-- a session where a timer has expired
abbrev pub expired : Standing → Timer → Standing
expired x timer = record { state = x.state; context = x.context; peer = x.peer; running = timers_with timer false x.running }

-- octets are accepted once the connection is up
abbrev pub listens : State → Bool
listens State.OpenSent = true
listens State.OpenConfirm = true
listens State.Established = true
listens _ = false

-- the Hold Time that both agreed on
abbrev pub hold_in : Option Context → ℕ
hold_in None = 0
hold_in (Some ctx) = ctx.hold

-- the context of a session that is Established
abbrev pub established_in : State → Option Context → Option Context
established_in State.Established ctx = ctx
established_in _ ctx = None

-- ---- how the code keeps them

abbrev pub state_in : Phase → State
state_in Phase.Idle = State.Idle
state_in Phase.Connect = State.Connect
state_in Phase.Active = State.Active
state_in Phase.OpenSent = State.OpenSent
state_in (Phase.OpenConfirm ctx peer) = State.OpenConfirm
state_in (Phase.Established ctx peer) = State.Established

abbrev pub context_in : Phase → Option Context
context_in (Phase.OpenConfirm ctx peer) = Some ctx
context_in (Phase.Established ctx peer) = Some ctx
context_in _ = None

abbrev pub peer_in : Phase → Option Said
peer_in (Phase.OpenConfirm ctx peer) = Some (said_of peer)
peer_in (Phase.Established ctx peer) = Some (said_of peer)
peer_in _ = None
