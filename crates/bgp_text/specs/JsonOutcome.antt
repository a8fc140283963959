-- An outcome as a line of JSON: an object.
use Rattle.std.specs.Prelude.{ℕ, List, [], ◌++◌, Option, None, Some, codes}
use Rattle.bgp_text.specs.Below.{decimal, Notification, Note, Routes, Message, Outcome, Span, error_name}
use Rattle.bgp_text.specs.Below.{subcode_name}
use Rattle.bgp_text.specs.Json.{quoted, octets_json, member, line_end, where_named, where_said}
use Rattle.bgp_text.specs.JsonNotes.{notes_member}
use Rattle.bgp_text.specs.JsonOpen.{open_members}
use Rattle.bgp_text.specs.JsonUpdate.{update_members, routes_json}
use Rattle.bgp_text.specs.Outcome.{reset_name}
use Rattle.bgp_text.specs.Shutdown.{shutdown_text}

-- the beginning of each object: the offset of a message in the stream, its length, its kind and the verdict on it
unfoldable pub judged : ℕ → ℕ → List ℕ → List ℕ → List ℕ
judged place len kind verdict =
    codes "{\"place\":" ++ (decimal place ++ (member (codes "length") decimal len ++ (member (codes "kind") quoted kind
    ++ member (codes "verdict") quoted verdict)))

-- the names of a code and a subcode, and the text of a NOTIFICATION that shuts a session down, if there are any
abbrev pub names_of : Notification → List ℕ
names_of n =
    where_named (codes "code_name") (error_name n.code) ++ (where_named (codes "subcode_name") (subcode_name n.code n.subcode)
    ++ where_said (codes "text") (shutdown_text n.code n.subcode n.info.items))

abbrev pub notification_members : Notification → List ℕ
notification_members n =
    member (codes "code") decimal n.code ++ (member (codes "subcode") decimal n.subcode ++ (member (codes "data") octets_json n.info.items ++ names_of n))

-- a message that is accepted; an UPDATE with notes on discarded attributes, which other messages don't have
unfoldable pub took_members : ℕ → ℕ → Message → List Note → List ℕ
took_members place len (Message.Open o) notes = judged place len (codes "OPEN") (codes "take") ++ open_members o
took_members place len (Message.Update u) notes = judged place len (codes "UPDATE") (codes "take") ++ (update_members u ++ notes_member notes)
took_members place len (Message.Notification n) notes = judged place len (codes "NOTIFICATION") (codes "take") ++ notification_members n
took_members place len Message.Keepalive notes = judged place len (codes "KEEPALIVE") (codes "take")

-- an UPDATE that is treated as a withdrawal, and notes on why
abbrev pub withdraw_members : ℕ → ℕ → Routes → List Note → List ℕ
withdraw_members place len routes notes =
    judged place len (codes "UPDATE") (codes "withdraw") ++ (member (codes "routes") routes_json routes ++ notes_member notes)

-- the octets at fault in a message, or in its header: their number, and the offset of the first
unfoldable pub count_member : Span → List ℕ
count_member s = member (codes "fault_length") decimal s.len

abbrev pub fault_members : Span → List ℕ
fault_members s = member (codes "fault_offset") decimal s.at ++ count_member s

-- those that cause the NOTIFICATION
abbrev pub span_members : Option Span → List ℕ
span_members None = []
span_members (Some s) = fault_members s

-- a reset, under the name of what causes it
abbrev pub reset_members : ℕ → ℕ → Option Span → Notification → List ℕ
reset_members place len span n = judged place len (reset_name n.code) (codes "reset") ++ (notification_members n ++ span_members span)

-- the object of an outcome except its end, at its offset in the stream, with the length of its message, 0 for a header's fault, and
-- for a reset the octets that cause it
unfoldable pub outcome_members : ℕ → ℕ → Option Span → Outcome → List ℕ
outcome_members place len span (Outcome.Took m notes) = took_members place len m notes
outcome_members place len span (Outcome.Withdraw routes notes) = withdraw_members place len routes notes
outcome_members place len span (Outcome.Reset n) = reset_members place len span n

-- its line
unfoldable pub outcome_json : ℕ → ℕ → Option Span → Outcome → List ℕ
outcome_json place len span o = outcome_members place len span o ++ line_end
