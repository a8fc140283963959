-- Two sessions, the connection between them, and what each move of a schedule does.
use Rattle.std.specs.Prelude.{ℕ, zero, suc, Bool, true, false, List, [], ◌∷◌, ◌++◌, map, take, drop, Option, None, Some, if◌then◌else◌}
use Rattle.bgp_open.specs.Prelude.{Settings}
use Rattle.bgp_update.specs.declared.update.Update.{Update}
use Rattle.bgp_machine.specs.declared.event.Event.{Event}
use Rattle.bgp_machine.specs.declared.send_fault.SendFault.{SendFault}
use Rattle.bgp_machine.specs.declared.state.State.{State}
use Rattle.bgp_machine.specs.Prelude.{refusal_of, listens}
use Rattle.bgp_session.specs.declared.moves.Move.{Move}
use Rattle.bgp_session.specs.declared.report.Round.{Round}
use Rattle.bgp_session.specs.declared.side.Side.{Side}
use Rattle.bgp_session.specs.declared.side.Side.TheVariants.{A, B}
use Rattle.bgp_session.specs.Sight.{Sight, Begun, Ended, event_seen, octets_seen, tried_seen}
use Rattle.bgp_session.specs.Wire.{Call, Joined, Handed, Cut}
use Rattle.bgp_session.specs.Pair.{End, fresh_end, with_flight, Note, Pair, pair, told, fed, sent}

-- both ends and the NOTIFICATIONs of this round, the finished rounds, whether one has begun, and what wasn't sent
pub record World : Type 0 where
  pub a : End
  pub b : End
  pub notes : List Note
  pub over : List Round
  pub begun : Bool
  pub refused : List (Side × SendFault)

abbrev pub begins : Settings → Settings → World
begins a b = record { a = fresh_end a; b = fresh_end b; notes = []; over = []; begun = false; refused = [] }

-- ---- the ends as one side sees them

abbrev pub end_of : Side → World → End
end_of A w = w.a
end_of B w = w.b

abbrev pub seen_by : Side → World → Pair
seen_by A w = pair w.a w.b w.notes
seen_by B w = pair w.b w.a w.notes

abbrev pub with_pair : Side → World → Pair → World
with_pair A w p = record { a = p.this; b = p.other; notes = p.notes; over = w.over; begun = w.begun; refused = w.refused }
with_pair B w p = record { a = p.other; b = p.this; notes = p.notes; over = w.over; begun = w.begun; refused = w.refused }

-- an event happens to a side, and octets arrive at it
abbrev pub tells : Side → Event → World → World
tells side event w = with_pair side w (told side (seen_by side w) event)

abbrev pub feeds : Side → List ℕ → World → World
feeds side octets w = with_pair side w (fed side (seen_by side w) octets)

-- ---- the connection

-- the connection is up until both have left it
abbrev pub stands : World → Bool
stands w = if w.a.left then (if w.b.left then false else true) else true

abbrev pub tells_if : Bool → Side → Event → World → World
tells_if true side event w = tells side event w
tells_if false side event w = w

-- what is reported to an observer of an event, and of octets
abbrev pub tells_seen : Side → Event → World → List Sight
tells_seen side event w = event_seen side (end_of side w).session event ∷ []

abbrev pub feeds_seen : Side → List ℕ → World → List Sight
feeds_seen side octets w = octets_seen side (end_of side w).session octets

abbrev pub tells_if_seen : Bool → Side → Event → World → List Sight
tells_if_seen true side event w = tells_seen side event w
tells_if_seen false side event w = []

abbrev pub state_of : Side → World → State
state_of side w = (end_of side w).session.standing.state

-- a side for which a connection is up gets the event that it failed
abbrev pub fails_up : Side → World → World
fails_up side w = tells_if (listens (state_of side w)) side Event.Failed w

-- nothing is in flight
abbrev pub emptied : World → World
emptied w = record { a = with_flight w.a []; b = with_flight w.b []; notes = w.notes; over = w.over; begun = w.begun; refused = w.refused }

-- the connection is lost, where there is one
abbrev pub lost_if : Bool → World → World
lost_if true w = fails_up B (fails_up A (emptied w))
lost_if false w = w

abbrev pub lost : World → World
lost w = lost_if (stands w) w

abbrev pub fails_up_seen : Side → World → List Sight
fails_up_seen side w = tells_if_seen (listens (state_of side w)) side Event.Failed w

abbrev pub lost_if_seen : Bool → World → List Sight
lost_if_seen true w = fails_up_seen A (emptied w) ++ fails_up_seen B (fails_up A (emptied w))
lost_if_seen false w = []

abbrev pub lost_seen : World → List Sight
lost_seen w = lost_if_seen (stands w) w

-- a side seeks a connection
abbrev pub seeks : State → Bool
seeks State.Connect = true
seeks State.Active = true
seeks _ = false

abbrev pub refused_at : Side → World → World
refused_at side w = tells_if (seeks (state_of side w)) side Event.Failed w

abbrev pub refused_seen : Side → World → List Sight
refused_seen side w = tells_if_seen (seeks (state_of side w)) side Event.Failed w

-- ---- rounds

-- what was sent and received in this round
abbrev pub round_of : World → Round
round_of w = record {
  sent_a = w.a.sent;
  sent_b = w.b.sent;
  got_a = w.a.got;
  got_b = w.b.got;
  gone_a = w.a.gone;
  gone_b = w.b.gone;
  notes = w.notes;
}

abbrev pub with_round : Bool → List Round → Round → List Round
with_round true over round = over ++ round ∷ []
with_round false over round = over

abbrev pub rounds_of : World → List Round
rounds_of w = with_round w.begun w.over (round_of w)

-- an end at the beginning of a round
abbrev pub joined_end : End → End
joined_end e = record { session = e.session; left = false; flight = []; sent = []; got = []; gone = [] }

-- nothing was sent or received yet
abbrev pub forgetful : End → End
forgetful e = record { session = e.session; left = e.left; flight = e.flight; sent = []; got = []; gone = [] }

abbrev pub forgotten : World → World
forgotten w = record { a = forgetful w.a; b = forgetful w.b; notes = []; over = w.over; begun = w.begun; refused = w.refused }

abbrev pub round_over : World → World
round_over w = record { a = forgetful w.a; b = forgetful w.b; notes = []; over = rounds_of w; begun = w.begun; refused = w.refused }

abbrev pub new_round : World → World
new_round w = record { a = joined_end w.a; b = joined_end w.b; notes = []; over = rounds_of w; begun = true; refused = w.refused }

-- ---- moves that the wire answers

-- a call of the wire, or a report to an observer
pub data Turn : Type 0 where
  Asks : Call → Turn
  Shows : Sight → Turn

-- the calls of the wire in these turns
abbrev pub calls_in : List Turn → List Call
calls_in [] = []
calls_in (Asks call ∷ later) = call ∷ calls_in later
calls_in (Shows sight ∷ later) = calls_in later

-- and the reports to an observer
abbrev pub sights_in : List Turn → List Sight
sights_in [] = []
sights_in (Asks call ∷ later) = sights_in later
sights_in (Shows sight ∷ later) = sight ∷ sights_in later

-- the world, the remaining answers of the wire, and the turns that led there
pub record Ran : Type 0 where
  pub world : World
  pub answers : List Bool
  pub turns : List Turn

abbrev pub ran : World → List Bool → Ran
ran w answers = record { world = w; answers = answers; turns = [] }

-- what follows these turns
abbrev pub behind : List Turn → Ran → Ran
behind turns r = record { world = r.world; answers = r.answers; turns = turns ++ r.turns }

-- it is reported to the observer
abbrev pub shown : List Sight → Ran → Ran
shown sights r = behind (map Shows sights) r

-- the wire is called, and then this is reported
abbrev pub asked : Call → List Sight → Ran → Ran
asked call sights r = behind (Asks call ∷ map Shows sights) r

-- the next answer
abbrev pub answer_of : List Bool → Bool
answer_of [] = false
answer_of (answer ∷ later) = answer

abbrev pub later_of : List Bool → List Bool
later_of [] = []
later_of (answer ∷ later) = later

-- both seek a connection, and there is none
abbrev pub can_join : World → Bool
can_join w = if seeks w.a.session.standing.state then (if seeks w.b.session.standing.state then (if stands w then false else true) else false) else false

-- both get the event that they are connected, or that it failed, A first
abbrev pub joins : Bool → World → World
joins true w = tells B Event.Connected (tells A Event.Connected (new_round w))
joins false w = tells B Event.Failed (tells A Event.Failed w)

abbrev pub joins_seen : Bool → World → List Sight
joins_seen true w = tells_seen A Event.Connected (new_round w) ++ tells_seen B Event.Connected (tells A Event.Connected (new_round w))
joins_seen false w = tells_seen A Event.Failed w ++ tells_seen B Event.Failed (tells A Event.Failed w)

abbrev pub joined_if : Bool → World → List Bool → Ran
joined_if true w answers = asked (Joined (answer_of answers)) (joins_seen (answer_of answers) w) (ran (joins (answer_of answers) w) (later_of answers))
joined_if false w answers = ran w answers

-- a piece passes and arrives at the side, and then the others; or it doesn't, and the connection is lost
abbrev pub delivers_on : Bool → (World → List Bool → Ran) → Side → List ℕ → World → List Bool → Ran
delivers_on true on side piece w answers = asked (Handed side piece true) (feeds_seen side piece w) (on (feeds side piece w) answers)
delivers_on false on side piece w answers = asked (Handed side piece false) (lost_seen w) (ran (lost w) answers)

-- octets pass in pieces of 4096, until the side has left: no more pieces than octets
abbrev pub delivered : ℕ → Side → List ℕ → World → List Bool → Ran
delivered zero side octets w answers = ran w answers
delivered (suc n) side [] w answers = ran w answers
delivered (suc n) side octets w answers =
    if (end_of side w).left then ran w answers
    else delivers_on (answer_of answers) (delivered n side (drop 4096 octets)) side (take 4096 octets) w (later_of answers)

-- n octets are drawn out of the flight towards a side
abbrev pub drawn : Side → ℕ → World → World
drawn side k w = with_pair side w (pair (with_flight (end_of side w) (drop k (end_of side w).flight)) (seen_by side w).other w.notes)

abbrev pub delivers : Side → ℕ → World → List Bool → Ran
delivers side k w answers = delivered k side (take k (end_of side w).flight) (drawn side k w) answers

-- ---- sending

abbrev pub with_refused : World → Side → SendFault → World
with_refused w side fault = record { a = w.a; b = w.b; notes = w.notes; over = w.over; begun = w.begun; refused = w.refused ++ (side, fault) ∷ [] }

abbrev pub sent_or : Option SendFault → Side → Update → World → World
sent_or None side u w = with_pair side w (sent (seen_by side w) u)
sent_or (Some fault) side u w = with_refused w side fault

abbrev pub sends : Side → Update → World → World
sends side u w = sent_or (refusal_of (end_of side w).session u) side u w

abbrev pub sends_seen : Side → Update → World → List Sight
sends_seen side u w = tried_seen side (end_of side w).session u ∷ []

-- ---- a schedule

-- what a move does; the answers of the wire are used up in order
abbrev pub moved : Move → World → List Bool → Ran
moved (Move.Start side) w answers = shown (tells_seen side Event.Start w) (ran (tells side Event.Start w) answers)
moved (Move.Stop side) w answers = shown (tells_seen side Event.Stop w) (ran (tells side Event.Stop w) answers)
moved Move.Join w answers = joined_if (can_join w) w answers
moved (Move.Refuse side) w answers = shown (refused_seen side w) (ran (refused_at side w) answers)
moved (Move.Deliver side k) w answers = delivers side k w answers
moved Move.Lose w answers = shown (lost_seen w) (ran (lost w) answers)
moved (Move.Expire side timer) w answers = shown (tells_seen side (Event.Expired timer) w) (ran (tells side (Event.Expired timer) w) answers)
moved (Move.Send side u) w answers = shown (sends_seen side u w) (ran (sends side u w) answers)

-- the wire is cut after the move that ends the connection
abbrev pub cut_behind : Bool → Bool → List Turn
cut_behind true false = Asks Cut ∷ Shows Ended ∷ []
cut_behind _ _ = []

abbrev pub cut_if : Bool → Ran → Ran
cut_if stood r = record { world = r.world; answers = r.answers; turns = r.turns ++ cut_behind stood (stands r.world) }

abbrev pub played : Move → World → List Bool → Ran
played one w answers = shown (Begun one ∷ []) (cut_if (stands w) (moved one w answers))

abbrev pub all_moved : List Move → World → List Bool → Ran
all_moved [] w answers = ran w answers
all_moved (one ∷ later) w answers = behind (played one w answers).turns (all_moved later (moved one w answers).world (moved one w answers).answers)
