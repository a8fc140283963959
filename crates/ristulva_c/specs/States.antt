-- The states and the timers of a session, and its events, as numbers.
use Rattle.std.specs.Prelude.{ℕ, ◌==◌, Option, None, Some, if◌then◌else◌}
use Rattle.bgp_machine.specs.declared.event.Event.{Event}
use Rattle.bgp_machine.specs.declared.state.State.{State}
use Rattle.bgp_machine.specs.declared.timer.Timer.{Timer}
use Rattle.bgp_machine.specs.declared.event.Event.TheVariants as event
use Rattle.bgp_machine.specs.declared.state.State.TheVariants as state
use Rattle.bgp_machine.specs.declared.timer.Timer.TheVariants as timer
use Rattle.ristulva_c.specs.declared.states.TheConstants.{IDLE, CONNECT, ACTIVE, OPEN_SENT, OPEN_CONFIRM, ESTABLISHED, RETRY_TIMER, HOLD_TIMER, KEEPALIVE_TIMER, START, STOP, RETRY_EXPIRED, HOLD_EXPIRED, KEEPALIVE_EXPIRED, CONNECTED, FAILED}

-- the number of a state, as RFC 4273 numbers them for bgpPeerState
abbrev pub number_of_state : State → ℕ
number_of_state state.Idle = IDLE
number_of_state state.Connect = CONNECT
number_of_state state.Active = ACTIVE
number_of_state state.OpenSent = OPEN_SENT
number_of_state state.OpenConfirm = OPEN_CONFIRM
number_of_state state.Established = ESTABLISHED

abbrev pub number_of_timer : Timer → ℕ
number_of_timer timer.Retry = RETRY_TIMER
number_of_timer timer.Hold = HOLD_TIMER
number_of_timer timer.Keepalive = KEEPALIVE_TIMER

-- the event that has a number (RFC 4271, section 8.1)
abbrev pub event_of : ℕ → Option Event
event_of n =
    if n == START then Some event.Start else (
    if n == STOP then Some event.Stop else (
    if n == RETRY_EXPIRED then Some (event.Expired timer.Retry) else (
    if n == HOLD_EXPIRED then Some (event.Expired timer.Hold) else (
    if n == KEEPALIVE_EXPIRED then Some (event.Expired timer.Keepalive) else (
    if n == CONNECTED then Some event.Connected else (
    if n == FAILED then Some event.Failed else
    None))))))
