-- The printed form of a report.
use Rattle.std.specs.Prelude.{ℕ, ◌+◌, List, [], ◌∷◌, ◌++◌, length, codes}
use Rattle.std.specs.Fmt.{decimal}
use Rattle.std.specs.List.{flat_map}
use Rattle.bgp_machine.specs.declared.send_fault.SendFault.{SendFault}
use Rattle.bgp_machine.specs.declared.state.State.{State}
use Rattle.bgp_session.specs.declared.report.Report.{Report}
use Rattle.bgp_session.specs.declared.report.Round.{Round}
use Rattle.bgp_session.specs.declared.side.Side.{Side}
use Rattle.bgp_session.specs.declared.side.Side.TheVariants.{A, B}
use Rattle.bgp_script.specs.NoteList.{side_name, own_notes, notes_text}

-- the number of UPDATEs that a side sent, of those announced to it, of messages to it that were treated as withdrawals, and its NOTIFICATIONs
abbrev pub side_line : Side → ℕ → ℕ → ℕ → List (Side × ℕ × ℕ) → List ℕ
side_line side sent got gone notes =
    (side_name side ++ (codes " sent " ++ (decimal sent ++ (codes " got " ++ (decimal got ++ (codes " gone " ++ (decimal gone ++ codes " notes ")))))))
    ++ (notes_text (own_notes side notes) ++ 10 ∷ [])

abbrev pub round_lines : ℕ → Round → List ℕ
round_lines number r =
    (codes "round " ++ (decimal number ++ 10 ∷ []))
    ++ (side_line A (length r.sent_a) (length r.got_a) (length r.gone_a) r.notes ++ side_line B (length r.sent_b) (length r.got_b) (length r.gone_b) r.notes)

-- rounds, where the first has this number
abbrev pub rounds_from : ℕ → List Round → List ℕ
rounds_from number [] = []
rounds_from number (r ∷ rounds) = round_lines number r ++ rounds_from (number + 1) rounds

abbrev pub fault_number : SendFault → ℕ
fault_number SendFault.NotEstablished = 1
fault_number (SendFault.NotValid why) = 2
fault_number SendFault.TooLong = 3
fault_number SendFault.Memory = 4

abbrev pub refused_line : Side × SendFault → List ℕ
refused_line r = codes "refused " ++ (side_name r.0 ++ (codes " " ++ (decimal (fault_number r.1) ++ 10 ∷ [])))

abbrev pub state_name : State → List ℕ
state_name State.Idle = codes "Idle"
state_name State.Connect = codes "Connect"
state_name State.Active = codes "Active"
state_name State.OpenSent = codes "OpenSent"
state_name State.OpenConfirm = codes "OpenConfirm"
state_name State.Established = codes "Established"

abbrev pub state_line : Side → State → List ℕ
state_line side s = codes "state " ++ (side_name side ++ (codes " " ++ (state_name s ++ 10 ∷ [])))

abbrev pub report_text : Report → List ℕ
report_text r = rounds_from 1 r.rounds ++ (flat_map refused_line r.refused ++ (state_line A r.states.0 ++ state_line B r.states.1))
