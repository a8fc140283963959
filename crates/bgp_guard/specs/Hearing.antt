-- What the octets of a side do: each whole message is judged, cleaned and passed on, or answered (RFC 7606; RFC 4271, section 6).
use mathlib.Core.Logic.{inl, inr}
use Rattle.std.specs.Prelude.{◌==◌, ◌||◌, ◌&&◌, not, ℕ, Bool, true, false, List, [], ◌∷◌, ◌++◌, Option, None, Some, option_map, Result, Ok, Err, if◌then◌else◌}
use Rattle.std.specs.List.{flat_map}
use Rattle.std.specs.Option.{option_or}
use Rattle.bgp_wire.specs.Prelude.{has_octet}
use Rattle.bgp_frame.specs.declared.fault.HeadFault.{HeadFault}
use Rattle.bgp_frame.specs.declared.kind.Kind.{Kind}
use Rattle.bgp_frame.specs.declared.kind.WideKind.{WideKind}
use Rattle.bgp_frame.specs.declared.kind.WideKind.TheVariants as wide
use Rattle.bgp_frame.specs.declared.notification.Notification.{Notification}
use Rattle.bgp_frame.specs.Prelude.{head_notification, content_of_in}
use Rattle.bgp_open.specs.declared.context.Context.{Context}
use Rattle.bgp_open.specs.declared.fault.OpenFault.{OpenFault}
use Rattle.bgp_open.specs.declared.message.Open.{Open}
use Rattle.bgp_open.specs.Prelude.{agreed_with, number_of, reading_of, Said, said_by}
use Rattle.bgp_terms.specs.declared.refreshes.Refreshes.TheVariants as refreshes
use Rattle.bgp_terms.specs.Prelude.{Agreed, plain_terms, terms_with}
use Rattle.bgp_msg.specs.declared.message.Message.{Message}
use Rattle.bgp_msg.specs.declared.outcome.Outcome.{Outcome}
use Rattle.bgp_wide.specs.Prelude.{WideOutcome, is_offered, out_in}
use Rattle.bgp_clean.specs.declared.fault.CleanFault.{CleanFault}
use Rattle.bgp_clean.specs.declared.limits.Limits.{Limits}
use Rattle.bgp_clean.specs.Prelude.{WideMessage, canonical_in, cleaned_in, refuses_in}
use Rattle.bgp_update.specs.declared.update.Update.{Update}
use Rattle.bgp_guard.specs.declared.stage.Stage.{Stage}
use Rattle.bgp_guard.specs.declared.stage.TheConstants.{DRAIN_SECONDS}
use Rattle.bgp_guard.specs.declared.rules.Rules.{Rules}
use Rattle.bgp_guard.specs.Guard.{Framed, Half, Sight, Spoken, listens_in, spoken_by, types}
use Rattle.bgp_guard.specs.Place.{misplaced}
use Rattle.bgp_guard.specs.Answers.{Answers, bad_peer_as, not_offered, reset_by, reject_both, unexpected, answered}

-- until both OPENs were passed on: only messages are judged then whose outcome is the same in any context
abbrev pub no_context : Context
no_context = record { internal = false; as4 = false; ip4 = false; ip6 = false; hold = 0 }

-- what a side that says this sends to one that says that
abbrev pub terms_between : Spoken → Spoken → Agreed
terms_between ours theirs = record (terms_with theirs.said theirs.offered ours.said ours.offered) { context = agreed_with ours.said theirs.said }

abbrev pub agreed : Option Spoken → Option Spoken → Agreed
agreed (Some ours) (Some theirs) = terms_between ours theirs
agreed _ _ = plain_terms no_context

-- what both sides agreed on for what this one sends, by the OPENs as they were passed on
abbrev pub terms_in : Sight → Agreed
terms_in s = agreed s.this.peer s.other.peer

-- ---- the result of a message: messages that are passed on instead of it, or answers

-- the message's own fault is reported; an OPEN without one loses all of its families
abbrev pub answers_to : WideOutcome → Answers
answers_to (inl (Outcome.Reset n)) = reset_by n
answers_to (inr (Err n)) = reset_by n
answers_to _ = reject_both

abbrev pub handed_or : WideOutcome → Result (List WideMessage) CleanFault → Result (List WideMessage) Answers
handed_or o (Ok ns) = Ok ns
handed_or o (Err f) = Err (answers_to o)

-- the AS number by which a session knows a speaker: My Autonomous System where not both have 4-octet AS numbers (RFC 6793, section 4.1)
abbrev pub number_in : Context → Said → ℕ
number_in ctx said = if ctx.as4 then number_of said else said.as_field

-- the AS number of the neighbour, where its paths have to begin with it
abbrev pub neighbour_as : Bool → Context → Option Spoken → Option ℕ
neighbour_as true ctx said = option_map (λ spoken. number_in ctx spoken.said) said
neighbour_as false ctx said = None

-- the AS number that the paths of a side begin with, by what its OPEN says: that which the owner gives, else on an external session, where the owner
-- requires it, the neighbour's own (RFC 4271, section 6.3)
abbrev pub first_as_in : Rules → Context → Option Spoken → Option ℕ
first_as_in rules ctx said = option_or rules.limits.first_as (neighbour_as (rules.first_as && not ctx.internal) ctx said)

-- what the owner requires of the announcements of a side, in a context and by what its OPEN says: a first AS, and on an internal session LOCAL_PREF
-- (RFC 4271, section 5.1.5)
abbrev pub limits_in : Rules → Context → Option Spoken → Limits
limits_in rules ctx said = record rules.limits { local_pref = rules.limits.local_pref && ctx.internal; first_as = first_as_in rules ctx said }

-- an announcement is refused
abbrev pub refusal : Rules → Context → Option Spoken → Update → Bool
refusal rules ctx said = refuses_in ctx (limits_in rules ctx said)

-- of an OPEN ROUTE-REFRESH goes on, and not where one begins and ends: without graceful restart FRR answers none where both offer that
abbrev pub cleans : Rules → Sight → Framed → Result (List WideMessage) Answers
cleans rules s m =
    handed_or (out_in (terms_in s) m)
    (cleaned_in refreshes.Plain (terms_in s) (has_octet rules.drops) (refusal rules (terms_in s).context s.this.peer) true m)

-- ---- an OPEN of AS 0 isn't passed on (RFC 7607, section 2): neither My Autonomous System nor the 4-octet number is 0

abbrev pub is_of_zero : Said → Bool
is_of_zero s = (s.as_field == 0) || (number_of s == 0)

abbrev pub reads_zero : Result Open OpenFault → Bool
reads_zero (Ok o) = is_of_zero (said_by o)
reads_zero (Err fault) = false

abbrev pub has_zero : Kind → List ℕ → Bool
has_zero Kind.Open body = reads_zero (reading_of body)
has_zero _ body = false

-- nor is a ROUTE-REFRESH that the other side doesn't offer (RFC 2918, section 3)
abbrev pub refused_by : Sight → WideKind → List ℕ → Option Notification
refused_by s (wide.Base kind) body = if has_zero kind body then Some bad_peer_as else None
refused_by s wide.Refresh body = if is_offered (terms_in s).refresh then None else Some not_offered

abbrev pub known : Rules → Sight → Framed → Option Notification → Result (List WideMessage) Answers
known rules s m (Some n) = Err (reset_by n)
known rules s m None = cleans rules s m

-- ---- a message is judged where it is in place

abbrev pub placed : Rules → Sight → Framed → Option ℕ → Result (List WideMessage) Answers
placed rules s m None = known rules s m (refused_by s m.kind m.body)
placed rules s m (Some subcode) = Err (reset_by (unexpected subcode m.kind))

abbrev pub comes_of : Rules → Sight → Framed → Result (List WideMessage) Answers
comes_of rules s m = placed rules s m (misplaced s m.kind)

-- ---- what it does

-- what an OPEN says is kept as it is passed on
abbrev pub peer_behind : WideKind → List WideMessage → Option Spoken → Option Spoken
peer_behind (wide.Base Kind.Open) (inl (Message.Open o) ∷ later) before = Some (spoken_by o)
peer_behind _ _ before = before

abbrev pub ready_behind : WideKind → Bool → Bool
ready_behind (wide.Base Kind.Keepalive) before = true
ready_behind _ before = before

-- a NOTIFICATION ends both directions
abbrev pub stage_behind : WideKind → Stage → Stage
stage_behind (wide.Base Kind.Notification) before = Stage.Ends DRAIN_SECONDS
stage_behind _ before = before

-- what remains of a cleaned UPDATE: nothing where the side's routes stay inside, or where a KEEPALIVE replaces it, since it has no routes
abbrev pub left_of : Bool → List WideMessage → List WideMessage
left_of true ns = []
left_of false (inl Message.Keepalive ∷ later) = []
left_of false ns = ns

-- the messages that are passed on instead of a received one, by its kind: nothing of a ROUTE-REFRESH that a KEEPALIVE replaces
abbrev pub said_as : Bool → WideKind → List WideMessage → List WideMessage
said_as silent (wide.Base Kind.Update) ns = left_of silent ns
said_as silent wide.Refresh ns = left_of false ns
said_as silent kind ns = ns

-- where nothing is passed on the other side is owed a KEEPALIVE: the sender counts the message as one, and the receiver hasn't received it
abbrev pub is_dropped : List WideMessage → Bool
is_dropped [] = true
is_dropped (n ∷ later) = false

abbrev pub quiet_behind : List WideMessage → ℕ → ℕ
quiet_behind [] quiet = quiet
quiet_behind (n ∷ later) quiet = 0

abbrev pub handed_to : Agreed → List WideMessage → Half → Half
handed_to terms said h = record h { way = h.way ++ flat_map (canonical_in terms) said; quiet = quiet_behind said h.quiet; owed = is_dropped said }

abbrev pub handed_on : Bool → Sight → WideKind → List WideMessage → Sight
handed_on silent s kind ns = record {
  stage = stage_behind kind s.stage;
  this = record s.this { peer = peer_behind kind ns s.this.peer; ready = ready_behind kind s.this.ready };
  other = handed_to (terms_in s) (said_as silent kind ns) s.other;
}

abbrev pub done : Bool → Sight → WideKind → Result (List WideMessage) Answers → Sight
done silent s kind (Ok ns) = handed_on silent s kind ns
done silent s kind (Err answers) = answered s answers

abbrev pub holding : Sight → List ℕ → Sight
holding s held = record s { this = record s.this { held = held } }

-- what is held is incomplete, a message or a header with a fault; where it is one of these, nothing is held after it
abbrev pub heard_as : Rules → Bool → Sight → Option (Result Framed HeadFault) → Sight
heard_as rules silent s None = s
heard_as rules silent s (Some (Ok m)) = done silent (holding s []) m.kind (comes_of rules (holding s []) m)
heard_as rules silent s (Some (Err fault)) = answered (holding s []) (reset_by (head_notification fault))

abbrev pub heard : Rules → Bool → Sight → Sight
heard rules silent s = heard_as rules silent s (content_of_in types s.this.held)

-- ---- octet by octet

-- an octet is held where the side is read
abbrev pub octet_by : Bool → Rules → Bool → Sight → ℕ → Sight
octet_by true rules silent s octet = heard rules silent (holding s (s.this.held ++ octet ∷ []))
octet_by false rules silent s octet = s

abbrev pub by_octet : Rules → Bool → Sight → ℕ → Sight
by_octet rules silent s octet = octet_by (listens_in s) rules silent s octet

abbrev pub by_octets : Rules → Bool → Sight → List ℕ → Sight
by_octets rules silent s [] = s
by_octets rules silent s (octet ∷ later) = by_octets rules silent (by_octet rules silent s octet) later
