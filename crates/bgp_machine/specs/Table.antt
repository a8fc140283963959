-- The state table: what is done on each event and each message in each state, and the state after it (RFC 4271, section 8.2.2).
-- What isn't listed does nothing.
use Rattle.std.specs.Prelude.{ℕ, ◌/◌, Bool, true, false, nat_lt, List, [], ◌∷◌, ◌++◌, Option, None, Some, Result, Ok, Err, if◌then◌else◌}
use Rattle.bgp_numbers.specs.declared.error.TheConstants.{OPEN_MESSAGE, HOLD_TIMER_EXPIRED, FINITE_STATE_MACHINE, CEASE, UNSPECIFIC, UNEXPECTED_IN_OPEN_SENT, UNEXPECTED_IN_OPEN_CONFIRM, UNEXPECTED_IN_ESTABLISHED}
use Rattle.bgp_frame.specs.declared.fault.HeadFault.{HeadFault}
use Rattle.bgp_frame.specs.declared.kind.Kind.{Kind}
use Rattle.bgp_frame.specs.Prelude.{Message, head_notification, code_of}
use Rattle.bgp_frame.specs.declared.notification.Notification.{Notification}
use Rattle.bgp_open.specs.declared.agreement.PeerFault.{PeerFault}
use Rattle.bgp_open.specs.declared.context.Context.{Context}
use Rattle.bgp_open.specs.declared.message.Open.{Open}
use Rattle.bgp_open.specs.Prelude.{Settings, agreement, peer_notification, Said, said_by, open_notification, reading_of}
use Rattle.bgp_open.specs.declared.fault.OpenFault.{OpenFault}
use Rattle.bgp_update.specs.declared.verdict.Verdict.{Verdict}
use Rattle.bgp_update.specs.Prelude.{onward_of, rebuilt, verdict_of}
use Rattle.bgp_machine.specs.declared.action.Action.{Action}
use Rattle.bgp_machine.specs.declared.action.Action.TheVariants.{Close, SendOpen, SendKeepalive, SendNotification, Arm, Disarm, Announce, Withdraw, Flush}
use Rattle.bgp_machine.specs.declared.event.Event.{Event}
use Rattle.bgp_machine.specs.declared.event.Event.TheVariants.{Start, Stop, Connected, Failed, Expired}
use Rattle.bgp_machine.specs.declared.state.State.{State}
use Rattle.bgp_machine.specs.declared.state.State.TheVariants.{Idle, Connect, Active, OpenSent, OpenConfirm, Established}
use Rattle.bgp_machine.specs.declared.timer.Timer.TheVariants.{Retry, Hold, Keepalive}
use Rattle.bgp_machine.specs.declared.timer.TheConstants.{RETRY_SECONDS, OPEN_HOLD_SECONDS}
use Rattle.bgp_machine.specs.declared.timer.Timers.{Timers}
use Rattle.bgp_machine.specs.Standing.{runs, timers_with, Standing, idle, agreed, expired, hold_in}

-- what is done, and the session after it
pub record Step : Type 0 where
  pub actions : List Action
  pub next : Standing

-- ---- terms of the table

abbrev pub nothing : Standing → Step
nothing x = record { actions = []; next = x }

-- a timer runs from when it is armed until it is disarmed
abbrev pub timers_behind : List Action → Timers → Timers
timers_behind [] t = t
timers_behind (Arm timer seconds ∷ later) t = timers_behind later (timers_with timer true t)
timers_behind (Disarm timer ∷ later) t = timers_behind later (timers_with timer false t)
timers_behind (_ ∷ later) t = timers_behind later t

-- this is done, and the session goes to this state
abbrev pub go : Standing → List Action → State → Step
go x actions state = record {
  actions = actions;
  next = record { state = state; context = x.context; peer = x.peer; running = timers_behind actions x.running };
}

abbrev pub only_if : Bool → Action → List Action
only_if holds does = if holds then does ∷ [] else []

-- each timer that runs is disarmed
abbrev pub disarmed : Timers → List Action
disarmed t = only_if t.retry (Disarm Retry) ++ (only_if t.hold (Disarm Hold) ++ only_if t.keepalive (Disarm Keepalive))

-- the routes of a session end with it
abbrev pub flushed : State → List Action
flushed Established = Flush ∷ []
flushed _ = []

-- after these actions the session leaves the connection: no timer runs any more, its routes are flushed, and there is no context
abbrev pub leave : Standing → List Action → Step
leave x first = record { actions = first ++ (disarmed x.running ++ flushed x.state); next = idle }

-- it sends the peer a NOTIFICATION, closes and leaves
abbrev pub reset : Standing → Notification → Step
reset x why = leave x (SendNotification why ∷ Close ∷ [])

abbrev pub error : ℕ → ℕ → List ℕ → Notification
error code subcode info = record { code = code; subcode = subcode; info = record { items = info } }

-- a message of a type that doesn't belong in the state: the data is its type (RFC 6608, section 3)
abbrev pub unexpected : ℕ → Kind → Notification
unexpected subcode kind = error FINITE_STATE_MACHINE subcode (code_of kind ∷ [])

abbrev pub held_too_long : Notification
held_too_long = error HOLD_TIMER_EXPIRED UNSPECIFIC []

abbrev pub cease : Notification
cease = error CEASE UNSPECIFIC []

-- the Hold Timer is restarted, where there is one
abbrev pub hold_on : Option Context → List Action
hold_on ctx = only_if (nat_lt 0 (hold_in ctx)) (Arm Hold (hold_in ctx))

abbrev pub keepalive_seconds : Option Context → ℕ
keepalive_seconds ctx = hold_in ctx / 3

-- ---- events

abbrev pub on_event : Standing → State → Event → Step
on_event x Idle Start = go x (Arm Retry RETRY_SECONDS ∷ Action.Connect ∷ []) Connect
on_event x Connect Connected = go x (Disarm Retry ∷ SendOpen ∷ Arm Hold OPEN_HOLD_SECONDS ∷ []) OpenSent
on_event x Connect Failed = leave x []
on_event x Connect (Expired Retry) = go x (Close ∷ Arm Retry RETRY_SECONDS ∷ Action.Connect ∷ []) Connect
on_event x Connect Stop = leave x (Close ∷ [])
on_event x Active Connected = go x (Disarm Retry ∷ SendOpen ∷ Arm Hold OPEN_HOLD_SECONDS ∷ []) OpenSent
on_event x Active Failed = leave x []
on_event x Active (Expired Retry) = go x (Arm Retry RETRY_SECONDS ∷ Action.Connect ∷ []) Connect
on_event x Active Stop = leave x (Close ∷ [])
on_event x OpenSent Failed = go x (Disarm Hold ∷ Arm Retry RETRY_SECONDS ∷ []) Active
on_event x OpenSent (Expired Hold) = reset x held_too_long
on_event x OpenSent Stop = reset x cease
on_event x OpenConfirm Failed = leave x []
on_event x OpenConfirm (Expired Hold) = reset x held_too_long
on_event x OpenConfirm (Expired Keepalive) = go x (SendKeepalive ∷ Arm Keepalive (keepalive_seconds x.context) ∷ []) OpenConfirm
on_event x OpenConfirm Stop = reset x cease
on_event x Established Failed = leave x []
on_event x Established (Expired Hold) = reset x held_too_long
on_event x Established (Expired Keepalive) = go x (SendKeepalive ∷ Arm Keepalive (keepalive_seconds x.context) ∷ []) Established
on_event x Established Stop = reset x cease
on_event x _ _ = nothing x

-- a timer that expired doesn't run; one that doesn't run can't expire
abbrev pub happens : Standing → Event → Step
happens x (Expired timer) = if runs x.running timer then on_event (expired x timer) x.state (Expired timer) else nothing x
happens x event = on_event x x.state event

-- ---- messages: the type is tested against the state first, and then the body judged

-- a peer is accepted, and the session continues with what both agreed on
abbrev pub accepted : Standing → Said → Context → Step
accepted x peer ctx =
    go (agreed x peer ctx)
    (if nat_lt 0 ctx.hold then SendKeepalive ∷ Arm Hold ctx.hold ∷ Arm Keepalive (ctx.hold / 3) ∷ [] else SendKeepalive ∷ Disarm Hold ∷ [])
    OpenConfirm

abbrev pub on_agreement : Standing → Said → Result Context PeerFault → Step
on_agreement x peer (Ok ctx) = accepted x peer ctx
on_agreement x peer (Err fault) = reset x (peer_notification fault)

-- the answer to a fault of an OPEN: only a failed allocation has none, which isn't a fault of a body
abbrev pub answered : Standing → Option Notification → Step
answered x (Some why) = reset x why
answered x None = reset x (error OPEN_MESSAGE UNSPECIFIC [])

abbrev pub on_open : Settings → Standing → Result Open OpenFault → Step
on_open s x (Ok o) = on_agreement x (said_by o) (agreement s o)
on_open s x (Err fault) = answered x (open_notification fault)

abbrev pub on_verdict : Standing → Verdict → Step
on_verdict x (Verdict.Take u notes) = go x (Announce (onward_of u) (rebuilt u.attrs) ∷ hold_on x.context) Established
on_verdict x (Verdict.Withdraw routes notes) = go x (Withdraw routes ∷ hold_on x.context) Established
on_verdict x (Verdict.Reset why) = reset x why

-- an UPDATE is judged in the context of the session
abbrev pub on_update : Standing → Option Context → List ℕ → Step
on_update x (Some ctx) body = on_verdict x (verdict_of ctx body)
on_update x None body = nothing x

abbrev pub on_message : Settings → Standing → State → Kind → List ℕ → Step
on_message s x OpenSent Kind.Open body = on_open s x (reading_of body)
on_message s x OpenSent Kind.Update body = reset x (unexpected UNEXPECTED_IN_OPEN_SENT Kind.Update)
on_message s x OpenSent Kind.Notification body = leave x (Close ∷ [])
on_message s x OpenSent Kind.Keepalive body = reset x (unexpected UNEXPECTED_IN_OPEN_SENT Kind.Keepalive)
on_message s x OpenConfirm Kind.Open body = reset x (unexpected UNEXPECTED_IN_OPEN_CONFIRM Kind.Open)
on_message s x OpenConfirm Kind.Update body = reset x (unexpected UNEXPECTED_IN_OPEN_CONFIRM Kind.Update)
on_message s x OpenConfirm Kind.Notification body = leave x (Close ∷ [])
on_message s x OpenConfirm Kind.Keepalive body = go x (hold_on x.context) Established
on_message s x Established Kind.Open body = reset x (unexpected UNEXPECTED_IN_ESTABLISHED Kind.Open)
on_message s x Established Kind.Update body = on_update x x.context body
on_message s x Established Kind.Notification body = leave x (Close ∷ [])
on_message s x Established Kind.Keepalive body = go x (hold_on x.context) Established
on_message s x _ kind body = nothing x

-- ---- headers with a fault

abbrev pub on_fault : Standing → State → HeadFault → Step
on_fault x OpenSent fault = reset x (head_notification fault)
on_fault x OpenConfirm fault = reset x (head_notification fault)
on_fault x Established fault = reset x (head_notification fault)
on_fault x _ fault = nothing x

-- what is received: a message, or a header with a fault
abbrev pub hears : Settings → Standing → Result Message HeadFault → Step
hears s x (Ok m) = on_message s x x.state m.kind m.body
hears s x (Err fault) = on_fault x x.state fault
