-- Two ends of one connection, of which one acts: what is sent to the other, what is received, and when an end leaves.
use Rattle.std.specs.Prelude.{ℕ, Bool, true, false, List, [], ◌∷◌, ◌++◌, Option, None, Some}
use Rattle.bgp_frame.specs.declared.notification.Notification.{Notification}
use Rattle.bgp_open.specs.declared.context.Context.{Context}
use Rattle.bgp_open.specs.Prelude.{Settings}
use Rattle.bgp_machine.specs.declared.action.Action.{Action}
use Rattle.bgp_machine.specs.declared.action.Action.TheVariants.{Close, SendOpen, SendKeepalive, SendNotification, Announce, Withdraw}
use Rattle.bgp_machine.specs.declared.event.Event.{Event}
use Rattle.bgp_machine.specs.declared.event.Event.TheVariants.{Failed}
use Rattle.bgp_machine.specs.Prelude.{by_octets, told_octets, Machine, fresh, own_octets, keepalive_octets, notification_octets, after_event, happens}
use Rattle.bgp_update.specs.declared.path_info.PathInfo.{PathInfo}
use Rattle.bgp_update.specs.declared.routes.Routes.{Routes}
use Rattle.bgp_update.specs.declared.update.Update.{Update}
use Rattle.bgp_session.specs.declared.side.Side.{Side}

-- ---- an end

-- a session; whether it has left the connection; the octets in flight towards it; and what it sent, received, and lost in this round
pub record End : Type 0 where
  pub session : Machine
  pub left : Bool
  pub flight : List ℕ
  pub sent : List Update
  pub got : List (Update × PathInfo)
  pub gone : List Routes

-- before any connection
abbrev pub fresh_end : Settings → End
fresh_end s = record { session = fresh s; left = true; flight = []; sent = []; got = []; gone = [] }

abbrev pub with_session : End → Machine → End
with_session e x = record { session = x; left = e.left; flight = e.flight; sent = e.sent; got = e.got; gone = e.gone }

-- it has left, and what was in flight towards it is lost
abbrev pub away : End → End
away e = record { session = e.session; left = true; flight = []; sent = e.sent; got = e.got; gone = e.gone }

-- octets are appended to those in flight; where the end has left they are lost
abbrev pub flying : Bool → List ℕ → List ℕ → List ℕ
flying true flight octets = flight
flying false flight octets = flight ++ octets

abbrev pub towards : End → List ℕ → End
towards e octets = record { session = e.session; left = e.left; flight = flying e.left e.flight octets; sent = e.sent; got = e.got; gone = e.gone }

abbrev pub with_flight : End → List ℕ → End
with_flight e flight = record { session = e.session; left = e.left; flight = flight; sent = e.sent; got = e.got; gone = e.gone }

abbrev pub with_sent : End → Update → End
with_sent e u = record { session = e.session; left = e.left; flight = e.flight; sent = e.sent ++ u ∷ []; got = e.got; gone = e.gone }

abbrev pub with_got : End → Update → PathInfo → End
with_got e u info = record { session = e.session; left = e.left; flight = e.flight; sent = e.sent; got = e.got ++ (u, info) ∷ []; gone = e.gone }

abbrev pub with_gone : End → Routes → End
with_gone e routes = record { session = e.session; left = e.left; flight = e.flight; sent = e.sent; got = e.got; gone = e.gone ++ routes ∷ [] }

-- ---- both ends

-- the sender of a NOTIFICATION, with its code and subcode
abbrev pub Note : Type 0
Note = Side × ℕ × ℕ

-- the end that acts, the other one, and the NOTIFICATIONs that both sent
pub record Pair : Type 0 where
  pub this : End
  pub other : End
  pub notes : List Note

abbrev pub pair : End → End → List Note → Pair
pair this other notes = record { this = this; other = other; notes = notes }

-- ---- what is sent

-- octets go in flight towards the other end
abbrev pub said : Pair → List ℕ → Pair
said p octets = pair p.this (towards p.other octets) p.notes

abbrev pub note_of : Side → Notification → Note
note_of side why = (side, why.code, why.subcode)

-- what an action of the session does to the pair: timers, the search for a connection and the loss of routes do nothing to it
abbrev pub acted : Side → Pair → Action → Pair
acted side p Close = pair (away p.this) p.other p.notes
acted side p SendOpen = said p (own_octets p.this.session.settings)
acted side p SendKeepalive = said p keepalive_octets
acted side p (SendNotification why) = pair p.this (towards p.other (notification_octets why)) (p.notes ++ note_of side why ∷ [])
acted side p (Announce u info) = pair (with_got p.this u info) p.other p.notes
acted side p (Withdraw routes) = pair (with_gone p.this routes) p.other p.notes
acted side p _ = p

abbrev pub all_acted : Side → Pair → List Action → Pair
all_acted side p [] = p
all_acted side p (action ∷ later) = all_acted side (acted side p action) later

-- ---- what happens to an end

-- an end whose connection failed has left
abbrev pub before_event : End → Event → End
before_event e Failed = away e
before_event e _ = e

abbrev pub told : Side → Pair → Event → Pair
told side p event =
    all_acted side
    (pair (with_session (before_event p.this event) (after_event p.this.session event)) p.other p.notes)
    (happens p.this.session.standing event).actions

-- octets arrive at an end, and are fed one after the other, with all that is to be done after each
abbrev pub fed : Side → Pair → List ℕ → Pair
fed side p octets =
    all_acted side
    (pair (with_session p.this (by_octets p.this.session octets).session) p.other p.notes)
    (by_octets p.this.session octets).actions

-- an UPDATE as it is sent in the context of the session
abbrev pub told_by : Option Context → Update → List ℕ
told_by None u = []
told_by (Some ctx) u = told_octets ctx u

-- an UPDATE that nothing refuses is sent
abbrev pub sent : Pair → Update → Pair
sent p u = pair (with_sent p.this u) (towards p.other (told_by p.this.session.standing.context u)) p.notes
