-- The printed form of a move's outcome.
use Rattle.std.specs.Prelude.{ℕ, List, [], ◌∷◌, ◌++◌, Option, None, Some, codes}
use Rattle.std.specs.Fmt.{decimal}
use Rattle.std.specs.List.{flat_map}
use Rattle.bgp_machine.specs.declared.action.Action.{Action}
use Rattle.bgp_machine.specs.declared.event.Event.{Event}
use Rattle.bgp_machine.specs.declared.send_fault.SendFault.{SendFault}
use Rattle.bgp_machine.specs.declared.state.State.{State}
use Rattle.bgp_machine.specs.declared.timer.Timer.{Timer}
use Rattle.bgp_session.specs.declared.moves.Move.{Move}
use Rattle.bgp_session.specs.declared.side.Side.{Side}
use Rattle.bgp_script.specs.NoteList.{side_name}
use Rattle.bgp_script.specs.ReportText.{fault_number, state_name}

abbrev pub timer_name : Timer → List ℕ
timer_name Timer.Retry = codes "retry"
timer_name Timer.Hold = codes "hold"
timer_name Timer.Keepalive = codes "keepalive"

-- ---- moves

-- the words of a move, as a script has them; an UPDATE's octets are left out
abbrev pub move_words : Move → List ℕ
move_words (Move.Start side) = codes "start " ++ side_name side
move_words (Move.Stop side) = codes "stop " ++ side_name side
move_words Move.Join = codes "join"
move_words (Move.Refuse side) = codes "refuse " ++ side_name side
move_words (Move.Deliver side count) = codes "deliver " ++ (side_name side ++ (codes " " ++ decimal count))
move_words Move.Lose = codes "lose"
move_words (Move.Expire side timer) = codes "expire " ++ (side_name side ++ (codes " " ++ timer_name timer))
move_words (Move.Send side u) = codes "send " ++ side_name side

abbrev pub move_line : Move → List ℕ
move_line one = codes "move " ++ (move_words one ++ 10 ∷ [])

-- ---- what a session does

abbrev pub action_words : Action → List ℕ
action_words Action.Connect = codes "connect"
action_words Action.Close = codes "close"
action_words Action.SendOpen = codes "send OPEN"
action_words Action.SendKeepalive = codes "send KEEPALIVE"
action_words (Action.SendNotification why) = codes "send NOTIFICATION " ++ (decimal why.code ++ (codes "/" ++ decimal why.subcode))
action_words (Action.Arm timer seconds) = codes "arm " ++ (timer_name timer ++ (codes " " ++ decimal seconds))
action_words (Action.Disarm timer) = codes "disarm " ++ timer_name timer
action_words (Action.Announce u info) = codes "announce"
action_words (Action.Withdraw routes) = codes "withdraw"
action_words Action.Flush = codes "flush"

-- each after a semicolon
abbrev pub behind_semicolon : Action → List ℕ
behind_semicolon a = codes "; " ++ action_words a

-- the event at a side, the state of its session after that, and the actions of the session
abbrev pub step_line : Side → List ℕ → State → List Action → List ℕ
step_line side cause st actions =
    (side_name side ++ (codes " " ++ (cause ++ (codes ": " ++ state_name st)))) ++ (flat_map behind_semicolon actions ++ 10 ∷ [])

abbrev pub event_words : Event → List ℕ
event_words Event.Start = codes "start"
event_words Event.Stop = codes "stop"
event_words Event.Connected = codes "connected"
event_words Event.Failed = codes "failed"
event_words (Event.Expired timer) = codes "expired " ++ timer_name timer

-- it sent an UPDATE, or why not, with the number that a report has for that
abbrev pub tried_words : Option SendFault → List ℕ
tried_words None = codes "sends"
tried_words (Some fault) = codes "refused " ++ decimal (fault_number fault)

-- it received the message whose lines precede this one
abbrev pub heard_words : List ℕ
heard_words = codes "heard"

-- both sides have left the connection
abbrev pub cut_line : List ℕ
cut_line = codes "cut" ++ 10 ∷ []
