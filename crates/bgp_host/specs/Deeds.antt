-- Actions that are carried out, in order: how each uses the connection, the clock and the observer.
use Rattle.std.specs.Prelude.{◌≡◌, ℕ, Bool, true, false, List, [], ◌∷◌, ◌++◌, map, Option}
use Rattle.std.specs.List.{flat_map}
use Rattle.bgp_machine.specs.declared.action.Action.{Action}
use Rattle.bgp_machine.specs.declared.action.Action.TheVariants.{Connect, Close, SendOpen, SendKeepalive, SendNotification, Arm, Disarm, Announce, Withdraw, Flush}
use Rattle.bgp_machine.specs.Prelude.{keepalive_octets, notification_octets}
use Rattle.bgp_host.specs.declared.link.Link.{Link}
use Rattle.bgp_host.specs.declared.link.Link.TheVariants.{Up, Down}
use Rattle.bgp_host.specs.Records.{Call, Sought, Sent, Closed, Tick, Armed, Disarmed, Notice, Announced, Withdrawn, Flushed, Grows}

-- ---- the calls for an action

abbrev pub ticks_of : Action → List Tick
ticks_of (Arm timer seconds) = Armed timer seconds ∷ []
ticks_of (Disarm timer) = Disarmed timer ∷ []
ticks_of _ = []

abbrev pub notices_of : Action → List Notice
notices_of (Announce u info) = Announced u info ∷ []
notices_of (Withdraw routes) = Withdrawn routes ∷ []
notices_of Flush = Flushed ∷ []
notices_of _ = []

-- octets are sent, unless the connection has failed
abbrev pub sends : Link → List ℕ → Bool → List Call
sends Down octets answer = []
sends _ octets answer = Sent octets answer ∷ []

-- the calls of the connection, where the speaker's own OPEN has these octets, and it returned `answer`
abbrev pub calls_of : List ℕ → Link → Action → Bool → List Call
calls_of own link Connect answer = Sought answer ∷ []
calls_of own link Close answer = Closed ∷ []
calls_of own link SendOpen answer = sends link own answer
calls_of own link SendKeepalive answer = sends link keepalive_octets answer
calls_of own link (SendNotification why) answer = sends link (notification_octets why) answer
calls_of _ _ _ _ = []

-- ---- the state of the connection

-- it is up where one was sought and found, else down
abbrev pub sought : Bool → Link
sought true = Up
sought false = Down

-- it failed where octets weren't sent
abbrev pub sent : Link → Bool → Link
sent Down answer = Down
sent link true = link
sent link false = Down

abbrev pub link_of : Link → Action → Bool → Link
link_of link Connect answer = sought answer
link_of link SendOpen answer = sent link answer
link_of link SendKeepalive answer = sent link answer
link_of link (SendNotification why) answer = sent link answer
link_of link _ answer = link

-- ---- actions that were carried out

-- an action, and what the connection returned: true where it wasn't called
pub record Deed : Type 0 where
  pub action : Action
  pub answer : Bool

abbrev pub actions_of : List Deed → List Action
actions_of deeds = map (λ d. d.action) deeds

-- all calls of the connection
abbrev pub all_calls : List ℕ → Link → List Deed → List Call
all_calls own link [] = []
all_calls own link (d ∷ later) = calls_of own link d.action d.answer ++ all_calls own (link_of link d.action d.answer) later

abbrev pub link_behind : Link → List Deed → Link
link_behind link [] = link
link_behind link (d ∷ later) = link_behind (link_of link d.action d.answer) later

abbrev pub all_ticks : List Deed → List Tick
all_ticks deeds = flat_map (λ d. ticks_of d.action) deeds

abbrev pub all_notices : List Deed → List Notice
all_notices deeds = flat_map (λ d. notices_of d.action) deeds

-- the three records
pub record Records : Type 0 where
  pub calls : Option (List Call)
  pub ticks : Option (List Tick)
  pub notices : Option (List Notice)

-- the connection received these calls, depending on what it returned, and `behind` is its state then
pub record Answers (calls : Bool → List Call) (links : Bool → Link) (old new : Option (List Call)) (behind : Link) : Type 0 where
  pub answer : Bool
  pub asked : Grows old new (calls answer)
  pub became : behind ≡ links answer

abbrev pub Asks : List ℕ → Link → Action → Option (List Call) → Option (List Call) → Link → Type 0
Asks own link action old new behind = Answers (calls_of own link action) (link_of link action) old new behind

-- Each of the actions was carried out, once and in order. The connection was in state `first` before the first of them.
pub record CarriesOut (own : List ℕ) (first : Link) (actions : List Action) (old new : Records) (link : Link) : Type 0 where
  pub deeds : List Deed
  pub in_order : actions_of deeds ≡ actions
  pub asked : Grows old.calls new.calls (all_calls own first deeds)
  pub ticked : Grows old.ticks new.ticks (all_ticks deeds)
  pub noticed : Grows old.notices new.notices (all_notices deeds)
  pub became : link ≡ link_behind first deeds
