-- What is reported to an observer of a run, and in which order.
use Rattle.std.specs.Prelude.{ℕ, Bool, true, false, List, [], ◌∷◌, ◌++◌, Option, None, Some}
use Rattle.bgp_open.specs.declared.context.Context.{Context}
use Rattle.bgp_machine.specs.declared.action.Action.{Action}
use Rattle.bgp_machine.specs.declared.event.Event.{Event}
use Rattle.bgp_machine.specs.declared.send_fault.SendFault.{SendFault}
use Rattle.bgp_machine.specs.declared.state.State.{State}
use Rattle.bgp_machine.specs.Prelude.{by_octet, refusal_of, keepalive_on, Machine, holding, judged, listens, Step, happens}
use Rattle.bgp_frame.specs.Prelude.{with_octet}
use Rattle.bgp_update.specs.declared.update.Update.{Update}
use Rattle.bgp_session.specs.declared.moves.Move.{Move}
use Rattle.bgp_session.specs.declared.side.Side.{Side}

-- A move begins. An event happened to a side; an octet arrived at it; the octets that arrived since its last message, or since its connection
-- is up, were judged as a message, in the context that both had agreed on before; it tried to send an UPDATE, and why that wasn't sent: each
-- with the state that the session is in then, and what it wants done. Both sides have left the connection.
pub data Sight : Type 0 where
  Begun : Move → Sight
  Told : Side → Event → State → List Action → Sight
  Came : Side → ℕ → Sight
  Heard : Side → Option Context → State → List Action → Sight
  Tried : Side → Option SendFault → State → List Action → Sight
  Ended : Sight

-- the observer once these were reported to it: `after` says what it makes of each
abbrev pub observed : {S : Type 0} → (S → Sight → S) → S → List Sight → S
observed after s [] = s
observed after s (sight ∷ later) = observed after (after s sight) later

-- ---- what a session shows

-- an event happens
abbrev pub event_seen : Side → Machine → Event → Sight
event_seen side x event = Told side event (happens x.standing event).next.state (happens x.standing event).actions

abbrev pub step_seen : Side → Machine → Option Step → List Sight
step_seen side x None = []
step_seen side x (Some step) = Heard side x.standing.context step.next.state step.actions ∷ []

-- what is held is judged, where it is whole
abbrev pub settled_seen : Side → Machine → List Sight
settled_seen side x = step_seen side x (judged x)

-- an octet arrives where octets are accepted
abbrev pub came_if : Bool → Side → ℕ → List Sight
came_if true side octet = Came side octet ∷ []
came_if false side octet = []

abbrev pub octet_seen : Side → Machine → ℕ → List Sight
octet_seen side x octet =
    came_if (listens x.standing.state) side octet ++ settled_seen side (holding x (with_octet (listens x.standing.state) x.held octet))

-- octet by octet
abbrev pub octets_seen : Side → Machine → List ℕ → List Sight
octets_seen side x [] = []
octets_seen side x (octet ∷ later) = octet_seen side x octet ++ octets_seen side (by_octet x octet).session later

-- an UPDATE that was sent restarts the Keepalive Timer, where there is one
abbrev pub keepalive_in : Option Context → List Action
keepalive_in None = []
keepalive_in (Some ctx) = keepalive_on ctx

abbrev pub tried_actions : Option SendFault → Option Context → List Action
tried_actions None ctx = keepalive_in ctx
tried_actions (Some fault) ctx = []

abbrev pub tried_seen : Side → Machine → Update → Sight
tried_seen side x u = Tried side (refusal_of x u) x.standing.state (tried_actions (refusal_of x u) x.standing.context)
