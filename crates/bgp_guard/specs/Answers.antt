-- The NOTIFICATIONs that the guard sends itself (RFC 4271, section 6; RFC 4486; RFC 6608).
use Rattle.std.specs.Prelude.{ℕ, List, [], ◌∷◌, ◌++◌, Option, None, Some}
use Rattle.bgp_numbers.specs.declared.error.TheConstants.{MESSAGE_HEADER, BAD_MESSAGE_TYPE, HOLD_TIMER_EXPIRED, FINITE_STATE_MACHINE, CEASE, UNSPECIFIC, ADMINISTRATIVE_RESET, ADMINISTRATIVE_SHUTDOWN, CONNECTION_REJECTED, OPEN_MESSAGE, BAD_PEER_AS}
use Rattle.bgp_numbers.specs.declared.message.TheConstants.{ROUTE_REFRESH}
use Rattle.bgp_frame.specs.declared.kind.Kind.{Kind}
use Rattle.bgp_frame.specs.declared.kind.WideKind.{WideKind}
use Rattle.bgp_frame.specs.Prelude.{octets_of, notification_with, wide_code}
use Rattle.bgp_frame.specs.declared.notification.Notification.{Notification}
use Rattle.bgp_msg.specs.Prelude.{notification_octets}
use Rattle.bgp_guard.specs.declared.stage.Stage.TheVariants as stage
use Rattle.bgp_guard.specs.declared.stage.TheConstants.{DRAIN_SECONDS}
use Rattle.bgp_guard.specs.Guard.{Half, Sight, Spoken}

-- the whole message
abbrev pub notice : Notification → List ℕ
notice n = octets_of (record { kind = Kind.Notification; body = notification_octets n })

-- the side was reset from the other side
abbrev pub reset_over : Notification
reset_over = notification_with CEASE ADMINISTRATIVE_RESET []

-- there is no session for it
abbrev pub rejected : Notification
rejected = notification_with CEASE CONNECTION_REJECTED []

-- the owner ends the session
abbrev pub shutdown : Notification
shutdown = notification_with CEASE ADMINISTRATIVE_SHUTDOWN []

-- its OPEN says AS 0
abbrev pub bad_peer_as : Notification
bad_peer_as = notification_with OPEN_MESSAGE BAD_PEER_AS []

-- its OPEN didn't arrive in time, or the other side doesn't read
abbrev pub expired : Notification
expired = notification_with HOLD_TIMER_EXPIRED UNSPECIFIC []

-- a message of this kind is out of place
abbrev pub unexpected : ℕ → WideKind → Notification
unexpected subcode kind = notification_with FINITE_STATE_MACHINE subcode (wide_code kind ∷ [])

-- a ROUTE-REFRESH, which the other side doesn't offer: a message of no type that is known
abbrev pub not_offered : Notification
not_offered = notification_with MESSAGE_HEADER BAD_MESSAGE_TYPE (ROUTE_REFRESH ∷ [])

-- the NOTIFICATION to one side, and that to the other
pub record Answers : Type 0 where
  pub this : Notification
  pub other : Notification

-- the side that erred is sent its error, the other that there was a reset
abbrev pub reset_by : Notification → Answers
reset_by n = record { this = n; other = reset_over }

abbrev pub reject_both : Answers
reject_both = record { this = rejected; other = rejected }

-- a NOTIFICATION is queued after all that is queued for a side
abbrev pub told : Notification → Half → Half
told n h = record h { way = h.way ++ notice n }

-- nothing more is read of either side
abbrev pub answered : Sight → Answers → Sight
answered s a = record { stage = stage.Ends DRAIN_SECONDS; this = told a.this s.this; other = told a.other s.other }

-- a side without an OPEN has timed out; the other is reset
abbrev pub late_answer : Option Spoken → Notification
late_answer None = expired
late_answer (Some said) = reset_over
