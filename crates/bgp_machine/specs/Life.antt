-- Whole lives of a session: calls from Idle on, in any order.
use Rattle.std.specs.Prelude.{◌≡◌, ℕ, Bool, true, false, List, [], ◌∷◌, ◌++◌, take, Option, Some, Ok}
use Rattle.bgp_wire.specs.Prelude.{AreOctets}
use Rattle.bgp_frame.specs.declared.kind.Kind.TheVariants as kind
use Rattle.bgp_frame.specs.Prelude.{IsFrame, Way}
use Rattle.bgp_open.specs.declared.context.Context.{Context}
use Rattle.bgp_open.specs.declared.message.Open.{Open}
use Rattle.bgp_open.specs.Prelude.{agreement, Settings, reading_of}
use Rattle.bgp_machine.specs.declared.action.Action.{Action}
use Rattle.bgp_machine.specs.declared.event.Event.{Event}
use Rattle.bgp_machine.specs.declared.state.State.{State}
use Rattle.bgp_machine.specs.Cutting.{settled}
use Rattle.bgp_machine.specs.Run.{by_look, by_pull}
use Rattle.bgp_machine.specs.Session.{Machine, fresh, after_event, IsFed}

-- a call of a session: an event, octets to be fed, a step, a pull from a piece, or a look at one and the call that continues after it
pub data Call : Type 0 where
  Told : (event : Event) → Call
  Fed : (piece : List ℕ) → Call
  Stepped : Call
  Pulled : (piece : List ℕ) → Call
  Looked : (piece : List ℕ) → Call

-- a session, and the octets that it has consumed since its connection is up
pub record Life : Type 0 where
  pub session : Machine
  pub taken : List ℕ

abbrev pub born : Settings → Life
born s = record { session = fresh s; taken = [] }

-- the event brings the session a connection
abbrev pub connects : State → Event → Bool
connects State.Connect Event.Connected = true
connects State.Active Event.Connected = true
connects _ _ = false

abbrev pub taken_behind : Bool → List ℕ → List ℕ
taken_behind true taken = []
taken_behind false taken = taken

-- the life after an event, and after a step
abbrev pub told : Life → Event → Life
told a event = record {
  session = after_event a.session event;
  taken = taken_behind (connects a.session.standing.state event) a.taken;
}

abbrev pub stepped : Life → Life
stepped a = record { session = (settled a.session).session; taken = a.taken }

-- the life after a piece of octets
pub record Eats (a : Life) (piece : List ℕ) (b : Life) : Type 0 where
  pub octets : AreOctets piece
  pub count : ℕ
  pub fed : IsFed a.session piece count b.session
  pub took : b.taken ≡ a.taken ++ take count piece

-- the life after a piece that is received
pub record HearsSo (way : Way Machine Action) (a : Life) (piece : List ℕ) (b : Life) : Type 0 where
  pub octets : AreOctets piece
  pub count : ℕ
  pub found : Option (List Action)
  pub call : way a.session piece count found b.session
  pub took : b.taken ≡ a.taken ++ take count piece

abbrev pub Goes : Life → Call → Life → Type 0
Goes a (Told event) b = b ≡ told a event
Goes a (Fed piece) b = Eats a piece b
Goes a Stepped b = b ≡ stepped a
Goes a (Pulled piece) b = HearsSo by_pull a piece b
Goes a (Looked piece) b = HearsSo by_look a piece b

-- a life continues by these calls
abbrev pub Lives : Life → List Call → Life → Type 0
Lives a [] b = b ≡ a
Lives a (call ∷ later) b = (m : Life) × Goes a call m × Lives m later b

-- the octets are an OPEN that was accepted and gave the context
pub record IsAgreedOpen (s : Settings) (context : Option Context) (octets : List ℕ) : Type 0 where
  pub body : List ℕ
  pub is_open : IsFrame (record { kind = kind.Open; body = body }) octets
  pub said : Open
  pub is_read : reading_of body ≡ Ok said
  pub agreed : Context
  pub accepted : agreement s said ≡ Ok agreed
  pub gave : context ≡ Some agreed

-- the octets begin with an OPEN that was accepted and gave the context, and then a KEEPALIVE
pub record BeginsByOpenAndKeepalive (s : Settings) (context : Option Context) (octets : List ℕ) : Type 0 where
  pub open_octets : List ℕ
  pub opened : IsAgreedOpen s context open_octets
  pub keepalive_octets : List ℕ
  pub is_keepalive : IsFrame (record { kind = kind.Keepalive; body = [] }) keepalive_octets
  pub rest : List ℕ
  pub in_order : octets ≡ open_octets ++ (keepalive_octets ++ rest)
