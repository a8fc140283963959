-- What events without octets do.
use Rattle.std.specs.Prelude.{ℕ, suc, ◌==◌, ◌+◌, ◌-◌, ◌*◌, ◌++◌, Bool, true, false, ◌&&◌, ◌||◌, min, not, nat_le, nat_lt, List, [], drop, is_some, if◌then◌else◌}
use Rattle.bgp_guard.specs.declared.side.Side.{Side}
use Rattle.bgp_guard.specs.declared.stage.Stage.{Stage}
use Rattle.bgp_guard.specs.declared.stage.TheConstants.{OPEN_SECONDS, DRAIN_SECONDS}
use Rattle.bgp_guard.specs.Guard.{Half, Guarding, Sight, is_empty, runs, seen_from, guard_of}
use Rattle.bgp_open.specs.declared.context.Context.{Context}
use Rattle.bgp_frame.specs.declared.kind.Kind.{Kind}
use Rattle.bgp_frame.specs.Prelude.{octets_of}
use Rattle.bgp_frame.specs.declared.notification.Notification.{Notification}
use Rattle.bgp_guard.specs.Hearing.{agreed}
use Rattle.bgp_guard.specs.Answers.{expired, late_answer, notice, rejected, shutdown, told}

-- a rule for what one side sees, as a rule for the guard
abbrev pub for_side : (Sight → Sight) → Side → Guarding → Guarding
for_side rule side g = guard_of side g.rules (rule (seen_from side g))

-- the connection is up
abbrev pub stood : Sight → Sight
stood s = record s { this = record s.this { stands = true } }

-- a side gets nothing more: what was queued for it is dropped, and the other is sent the reason
abbrev pub cut_if : Bool → Notification → Sight → Sight
cut_if true why s = record { stage = Stage.Ends DRAIN_SECONDS; this = record s.this { way = [] }; other = told why s.other }
cut_if false why s = s

-- a side that isn't up can't be reached: there is no session for the other
abbrev pub unreached : Sight → Sight
unreached s = cut_if (runs s.stage && not s.this.stands) rejected s

-- what is queued for a side hasn't moved for the Hold Time: it doesn't read, and the session of both ends (RFC 4271, section 6.5)
abbrev pub stalled : Sight → Sight
stalled s = cut_if (runs s.stage) expired s

-- the Hold Time that both agreed on (RFC 4271, section 4.2): the other value where they agreed on none, or an OPEN is missing
abbrev pub seconds_or : ℕ → Context → ℕ
seconds_or other ctx = if ctx.hold == 0 then other else ctx.hold

abbrev pub stall_seconds : Guarding → ℕ
stall_seconds g = seconds_or OPEN_SECONDS (agreed g.outer.peer g.inner.peer).context

-- a side that was up has closed: the other gets what is queued for it, and nothing of what was held
abbrev pub ended : Stage → Stage
ended (Stage.Runs n) = Stage.Ends DRAIN_SECONDS
ended (Stage.Ends n) = Stage.Ends n

abbrev pub closed_if : Bool → Sight → Sight
closed_if true s = record s { stage = ended s.stage; this = record s.this { stands = false; held = []; way = [] } }
closed_if false s = s

abbrev pub closed : Sight → Sight
closed s = closed_if s.this.stands s

-- n octets that were queued for a side are sent: all of them where there are fewer
abbrev pub sent : ℕ → Sight → Sight
sent n s = record s { this = record s.this { way = drop n s.this.way } }

-- ---- the owner ends the session

-- a side that is up is sent it, after what is queued; one that isn't gets nothing
abbrev pub farewell : Bool → List ℕ → List ℕ
farewell true way = way ++ notice shutdown
farewell false way = []

abbrev pub dismissed : Half → Half
dismissed h = record h { way = farewell h.stands h.way }

abbrev pub stopped_if : Bool → Guarding → Guarding
stopped_if true g = record g { stage = Stage.Ends DRAIN_SECONDS; outer = dismissed g.outer; inner = dismissed g.inner }
stopped_if false g = g

abbrev pub stopped : Guarding → Guarding
stopped g = stopped_if (runs g.stage) g

-- ---- a second

abbrev pub told_late : Half → Half
told_late h = told (late_answer h.peer) h

-- the OPENs have timed out
abbrev pub late : Guarding → Guarding
late g = record g { stage = Stage.Ends DRAIN_SECONDS; outer = told_late g.outer; inner = told_late g.inner }

-- the seconds count from when the first side came up, while an OPEN is missing
abbrev pub is_waiting : Guarding → Bool
is_waiting g = (g.outer.stands || g.inner.stands) && not (is_some g.outer.peer && is_some g.inner.peer)

-- ---- a KEEPALIVE of the guard's own, where messages to a side are dropped (RFC 4271, section 4.4)

abbrev pub keepalive : List ℕ
keepalive = octets_of (record { kind = Kind.Keepalive; body = [] })

-- it is due where one is owed, nothing is queued for the side, and for a third of the Hold Time nothing was passed on to it
abbrev pub is_due : ℕ → Half → Bool
is_due hold h = h.owed && (is_empty h.way && nat_le hold (3 * h.quiet))

abbrev pub reminder : Bool → List ℕ
reminder true = keepalive
reminder false = []

abbrev pub quiet_then : Bool → ℕ → ℕ
quiet_then true quiet = 0
quiet_then false quiet = quiet

abbrev pub owed_then : Bool → Bool → Bool
owed_then true owed = false
owed_then false owed = owed

abbrev pub reminded : Bool → Half → Half
reminded due h = record h { way = h.way ++ reminder due; quiet = quiet_then due h.quiet; owed = owed_then due h.owed }

-- one more second has passed, of at most 65535
abbrev pub aged : Half → Half
aged h = record h { quiet = min (h.quiet + 1) 65535 }

abbrev pub kept : ℕ → Half → Half
kept hold h = reminded (is_due hold (aged h)) (aged h)

-- the session is established once both KEEPALIVEs were passed on; with a Hold Time of 0 no KEEPALIVEs are sent
abbrev pub keeps_alive : ℕ → Guarding → Bool
keeps_alive hold g = not (hold == 0) && (g.outer.ready && g.inner.ready)

abbrev pub kept_if : Bool → ℕ → Guarding → Guarding
kept_if true hold g = record g { outer = kept hold g.outer; inner = kept hold g.inner }
kept_if false hold g = g

abbrev pub kept_in : ℕ → Guarding → Guarding
kept_in hold g = kept_if (keeps_alive hold g) hold g

abbrev pub kept_alive : Guarding → Guarding
kept_alive g = kept_in (agreed g.outer.peer g.inner.peer).context.hold g

-- ---- the seconds of a guard

abbrev pub waited : ℕ → Bool → Guarding → Guarding
waited n true g = if nat_lt (suc n) OPEN_SECONDS then record g { stage = Stage.Runs (suc n) } else late g
waited n false g = kept_alive g

abbrev pub ticked_in : Stage → Guarding → Guarding
ticked_in (Stage.Runs n) g = waited n (is_waiting g) g
ticked_in (Stage.Ends n) g = record g { stage = Stage.Ends (n - 1) }

abbrev pub ticked : Guarding → Guarding
ticked g = ticked_in g.stage g
