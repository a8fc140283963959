-- Calls of a session, one after another, with all that was carried out after each.
use Rattle.std.specs.Prelude.{◌≡◌, ℕ, Bool, true, List, [], ◌∷◌, ◌++◌, drop, Option, None, Some}
use Rattle.std.specs.List.{flat_map}
use Rattle.arrayvec.specs.ArrayVec.{ArrayVec}
use Rattle.bgp_update.specs.declared.update.Update.{Update}
use Rattle.bgp_machine.specs.declared.action.Action.{Action}
use Rattle.bgp_machine.specs.declared.event.Event.{Event}
use Rattle.bgp_machine.specs.declared.state.State.{State}
use Rattle.bgp_machine.specs.Prelude.{IsPulled, IsSent, Machine, own_octets, after_event, listens, happens}
use Rattle.bgp_host.specs.declared.link.Link.{Link}
use Rattle.bgp_host.specs.declared.link.Link.TheVariants.{Same, Up, Down}
use Rattle.bgp_host.specs.Records.{Call, Sent, Tick, Notice, Stood, Grows}
use Rattle.bgp_host.specs.Deeds.{Deed, actions_of, all_calls, all_ticks, all_notices, link_behind, sent, Records}

-- ---- one call

-- why a session is called: an event; a pull of `count` octets of a piece; or an UPDATE to send, which has these octets, and for which the
-- connection returned this
pub data Cause : Type 0 where
  Told : (event : Event) → Cause
  Heard : (piece : List ℕ) (count : ℕ) → Cause
  Gave : (update : Update) (octets : List ℕ) (answer : Bool) → Cause

abbrev pub found_actions : Option (ArrayVec Action) → List Action
found_actions None = []
found_actions (Some actions) = actions.items

-- a pull, and its outcome
pub record Pulls (x : Machine) (piece : List ℕ) (count : ℕ) (actions : List Action) (y : Machine) : Type 0 where
  pub found : Option (ArrayVec Action)
  pub pulled : IsPulled x piece count found y
  pub does : actions ≡ found_actions found

-- the actions that the session returns, and its state then
abbrev pub Gives : Machine → Cause → List Action → Machine → Type 0
Gives x (Told event) actions y = (actions ≡ (happens x.standing event).actions) × (y ≡ after_event x event)
Gives x (Heard piece count) actions y = Pulls x piece count actions y
Gives x (Gave u octets answer) actions y = IsSent x u actions [] octets × (y ≡ x)

-- the octets of an UPDATE are sent before anything else
abbrev pub first_calls : Cause → List Call
first_calls (Gave u octets answer) = Sent octets answer ∷ []
first_calls _ = []

abbrev pub first_link : Cause → Link
first_link (Gave u octets answer) = sent Same answer
first_link _ = Same

-- a call, what was carried out after it, the calls of the connection for it, and the state after all that
pub record Turn : Type 0 where
  pub cause : Cause
  pub deeds : List Deed
  pub calls : List Call
  pub stood : State

abbrev pub link_after : Turn → Link
link_after t = link_behind (first_link t.cause) t.deeds

abbrev pub turn_ticks : Turn → List Tick
turn_ticks t = all_ticks t.deeds

abbrev pub turn_notices : Turn → List Notice
turn_notices t = all_notices t.deeds ++ Stood t.stood ∷ []

-- The session returned these actions, and each of them was carried out, once and in order.
pub record IsTurn (x : Machine) (t : Turn) (y : Machine) : Type 0 where
  pub gives : Gives x t.cause (actions_of t.deeds) y
  pub asked : t.calls ≡ first_calls t.cause ++ all_calls (own_octets x.settings) (first_link t.cause) t.deeds
  pub stands : t.stood ≡ y.standing.state

-- ---- calls one after another

-- a connection that is up, or that failed, is reported at once
abbrev pub IsDue : Link → Cause → Type 0
IsDue Same cause = Unit {0}
IsDue Up cause = cause ≡ Told Event.Connected
IsDue Down cause = cause ≡ Told Event.Failed

pub record GoesOn (later : Link → Machine → Type 0) (link : Link) (x : Machine) (t : Turn) : Type 0 where
  pub is_due : IsDue link t.cause
  pub between : Machine
  pub is_turn : IsTurn x t between
  pub goes_on : later (link_after t) between

-- these turns, where the connection was in state `link` before the first of them, and is in state `last` after them
abbrev pub Goes : Link → Machine → List Turn → Link → Machine → Type 0
Goes link x [] last y = (last ≡ link) × (y ≡ x)
Goes link x (t ∷ later) last y = GoesOn (λ l m. Goes l m later last y) link x t

-- the calls that the owner made, apart from those that were due
abbrev pub cause_if_free : Link → Cause → List Cause
cause_if_free Same cause = cause ∷ []
cause_if_free _ cause = []

abbrev pub causes_of : Link → List Turn → List Cause
causes_of link [] = []
causes_of link (t ∷ later) = cause_if_free link t.cause ++ causes_of (link_after t) later

-- a session, and the records of the calls
pub record Hosted : Type 0 where
  pub session : Machine
  pub records : Records

abbrev pub hosted : Machine → Option (List Call) → Option (List Tick) → Option (List Notice) → Hosted
hosted session calls ticks notices = record { session = session; records = record { calls = calls; ticks = ticks; notices = notices } }

pub record RunsFrom (link : Link) (old : Hosted) (causes : List Cause) (last : Link) (new : Hosted) : Type 0 where
  pub turns : List Turn
  pub goes : Goes link old.session turns last new.session
  pub are_causes : causes_of link turns ≡ causes
  pub asked : Grows old.records.calls new.records.calls (flat_map (λ t. t.calls) turns)
  pub ticked : Grows old.records.ticks new.records.ticks (flat_map turn_ticks turns)
  pub noticed : Grows old.records.notices new.records.notices (flat_map turn_notices turns)

-- The session was called for these causes, and for each change of the connection on the way, as soon as it was known; after each call all its
-- actions were carried out, once and in order, and nothing else; and every change was reported to the session.
abbrev pub Runs : Hosted → List Cause → Hosted → Type 0
Runs old causes new = RunsFrom Same old causes Same new

-- ---- octets received

-- the piece is pulled from its front on, pull after pull, and `rest` is left
abbrev pub ArePulls : List ℕ → List Cause → List ℕ → Type 0
ArePulls piece [] rest = rest ≡ piece
ArePulls piece (Heard whole count ∷ later) rest = (whole ≡ piece) × ArePulls (drop count piece) later rest
ArePulls piece (_ ∷ later) rest = ⊥

-- All of the piece was received, up to where the session left.
pub record HearsAll (old : Hosted) (piece : List ℕ) (new : Hosted) : Type 0 where
  pub causes : List Cause
  pub runs : Runs old causes new
  pub rest : List ℕ
  pub pulls : ArePulls piece causes rest
  pub all : listens new.session.standing.state ≡ true → rest ≡ []

-- The first octets of a piece were received.
pub record HearsSome (old : Hosted) (piece : List ℕ) (new : Hosted) : Type 0 where
  pub causes : List Cause
  pub runs : Runs old causes new
  pub rest : List ℕ
  pub pulls : ArePulls piece causes rest

-- An UPDATE was sent, or the connection failed at that.
pub record SendsOne (old : Hosted) (u : Update) (new : Hosted) : Type 0 where
  pub octets : List ℕ
  pub answer : Bool
  pub runs : Runs old (Gave u octets answer ∷ []) new
