-- The lines of an outcome.
use Rattle.std.specs.Prelude.{ℕ, ◌==◌, List, [], ◌∷◌, ◌++◌, codes, if◌then◌else◌}
use Rattle.bgp_text.specs.Below.{flat_map, decimal, MESSAGE_HEADER, OPEN_MESSAGE, ROUTE_REFRESH_MESSAGE, Notification, Note}
use Rattle.bgp_text.specs.Below.{Routes, Message, Outcome}
use Rattle.bgp_text.specs.Info.{notification_text}
use Rattle.bgp_text.specs.NoteLines.{note_line}
use Rattle.bgp_text.specs.OpenLines.{open_lines}
use Rattle.bgp_text.specs.UpdateLines.{update_lines, routes_lines}

-- the offset of a message in the stream, its length, and what it is
abbrev pub head_line : ℕ → ℕ → List ℕ → List ℕ
head_line place len name = decimal place ++ (codes " " ++ (decimal len ++ (codes " " ++ (name ++ 10 ∷ []))))

abbrev pub notification_line : ℕ → ℕ → Notification → List ℕ
notification_line place len n = decimal place ++ (codes " " ++ (decimal len ++ (codes " NOTIFICATION " ++ (notification_text n ++ 10 ∷ []))))

-- a message that is accepted
unfoldable pub message_lines : ℕ → ℕ → Message → List ℕ
message_lines place len (Message.Open o) = head_line place len (codes "OPEN") ++ open_lines o
message_lines place len (Message.Update u) = head_line place len (codes "UPDATE take") ++ update_lines u
message_lines place len (Message.Notification n) = notification_line place len n
message_lines place len Message.Keepalive = head_line place len (codes "KEEPALIVE")

-- a message that is accepted, and notes on its discarded attributes
abbrev pub took_lines : ℕ → ℕ → Message → List Note → List ℕ
took_lines place len m notes = message_lines place len m ++ flat_map note_line notes

-- an UPDATE that is treated as a withdrawal, and notes on why
abbrev pub withdraw_lines : ℕ → ℕ → Routes → List Note → List ℕ
withdraw_lines place len routes notes = head_line place len (codes "UPDATE withdraw") ++ (routes_lines routes ++ flat_map note_line notes)

-- What causes a NOTIFICATION, by its code: a header, an OPEN (RFC 4271, section 4.5), a ROUTE-REFRESH (RFC 7313, section 5), or else an
-- UPDATE. The module `laws` states that no reset has another name than that of what causes it; so the lines are a function of the outcome
-- only.
abbrev pub reset_name : ℕ → List ℕ
reset_name code =
    if code == MESSAGE_HEADER then codes "HEADER" else (
    if code == OPEN_MESSAGE then codes "OPEN" else (
    if code == ROUTE_REFRESH_MESSAGE then codes "ROUTE-REFRESH" else
    codes "UPDATE"))

abbrev pub reset_line : ℕ → ℕ → Notification → List ℕ
reset_line place len n = decimal place ++ (codes " " ++ (decimal len ++ (codes " " ++ (reset_name n.code ++ (codes " reset " ++ (notification_text n ++ 10 ∷ []))))))

-- what is printed for an outcome, at its offset in the stream and with the length of its message, 0 for a header's fault
unfoldable pub outcome_lines : ℕ → ℕ → Outcome → List ℕ
outcome_lines place len (Outcome.Took m notes) = took_lines place len m notes
outcome_lines place len (Outcome.Withdraw routes notes) = withdraw_lines place len routes notes
outcome_lines place len (Outcome.Reset n) = reset_line place len n
