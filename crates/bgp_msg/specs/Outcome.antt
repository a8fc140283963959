-- The outcome of a message (RFC 4271, sections 4.5, 6.1 to 6.3; RFC 7606).
use Rattle.std.specs.Prelude.{ℕ, Bool, true, false, List, [], drop, slice_index, Option, None, Some, Result, Ok, Err}
use Rattle.bgp_numbers.specs.declared.error.TheConstants.{UNSPECIFIC}
use Rattle.bgp_frame.specs.declared.fault.HeadFault.{HeadFault}
use Rattle.bgp_frame.specs.declared.kind.Kind.{Kind}
use Rattle.bgp_frame.specs.Prelude.{head_notification, StreamRules}
use Rattle.bgp_frame.specs.declared.kind.Kind.TheVariants as kind
use Rattle.bgp_frame.specs.declared.notification.Notification.{Notification}
use Rattle.bgp_frame.specs.Frame as frame
use Rattle.bgp_open.specs.declared.context.Context.{Context}
use Rattle.bgp_open.specs.declared.fault.OpenFault.{OpenFault}
use Rattle.bgp_open.specs.declared.message.Open.{Open}
use Rattle.bgp_open.specs.Prelude.{open_error, open_notification, reading_of}
use Rattle.bgp_update.specs.declared.verdict.Verdict.{Verdict}
use Rattle.bgp_update.specs.Prelude.{verdict_of}
use Rattle.bgp_update.specs.declared.verdict.Verdict.TheVariants as verdict
use Rattle.bgp_msg.specs.declared.message.Message.TheVariants as message
use Rattle.bgp_msg.specs.declared.outcome.Outcome.{Outcome}
use Rattle.bgp_msg.specs.declared.outcome.Outcome.TheVariants as outcome

-- the answer to an OPEN's fault; only a failed allocation has none, which isn't a fault of a body
abbrev pub of_open_fault : Option Notification → Outcome
of_open_fault (Some n) = outcome.Reset n
of_open_fault None = outcome.Reset (open_error UNSPECIFIC [])

-- an OPEN is accepted, or ends the session
abbrev pub of_reading : Result Open OpenFault → Outcome
of_reading (Ok o) = outcome.Took (message.Open o) []
of_reading (Err fault) = of_open_fault (open_notification fault)

-- the outcome of an UPDATE is its verdict
abbrev pub of_verdict : Verdict → Outcome
of_verdict (verdict.Take u notes) = outcome.Took (message.Update u) notes
of_verdict (verdict.Withdraw routes notes) = outcome.Withdraw routes notes
of_verdict (verdict.Reset n) = outcome.Reset n

-- the content of a NOTIFICATION's body: its code, its subcode, and its data, which is the rest
abbrev pub notification_in : List ℕ → Notification
notification_in body = record { code = slice_index body 0; subcode = slice_index body 1; info = record { items = drop 2 body } }

abbrev pub of_body : Context → Kind → List ℕ → Outcome
of_body ctx kind.Open body = of_reading (reading_of body)
of_body ctx kind.Update body = of_verdict (verdict_of ctx body)
of_body ctx kind.Notification body = outcome.Took (message.Notification (notification_in body)) []
of_body ctx kind.Keepalive body = outcome.Took message.Keepalive []

-- the outcome of a whole message in a context
abbrev pub out_of : Context → frame.Message → Outcome
out_of ctx m = of_body ctx m.kind m.body

abbrev pub of_fault : HeadFault → Outcome
of_fault fault = outcome.Reset (head_notification fault)

-- the session ends; a NOTIFICATION that was received is accepted, and isn't a reset
abbrev pub is_reset : Outcome → Bool
is_reset (outcome.Reset n) = true
is_reset _ = false

-- how messages and headers are judged in a context
abbrev pub stream_rules : Context → StreamRules Outcome
stream_rules ctx = record { of_message = out_of ctx; of_fault = of_fault; resets = is_reset }
