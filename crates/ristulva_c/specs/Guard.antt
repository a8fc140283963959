-- What the calls on a guard do.
use Rattle.std.specs.Prelude.{◌≡◌, ◌⊎◌, ℕ, ◌==◌, false, List, length, take, Option, None, Some, option_map, if◌then◌else◌}
use Rattle.bgp_wire.specs.Prelude.{all_but, has_octet}
use Rattle.bgp_frame.specs.Prelude.{wide_code}
use Rattle.bgp_clean.specs.Prelude.{no_limits}
use Rattle.bgp_guard.specs.declared.came.Came.{Came}
use Rattle.bgp_guard.specs.declared.rules.Rules.{Rules}
use Rattle.bgp_guard.specs.declared.side.Side.{Side}
use Rattle.bgp_guard.specs.Prelude.{Guarding, Sight, fresh, half, listens, closes, has_ended, for_side, stood, unreached, closed, stalled, stopped, stall_seconds, ticked, IsHeard}
use Rattle.bgp_guard.specs.declared.came.Came.TheVariants as came
use Rattle.bgp_guard.specs.declared.side.Side.TheVariants as side
use Rattle.ristulva_c.specs.declared.agreed.ToldPeer.{ToldPeer}
use Rattle.ristulva_c.specs.declared.guard.ToldCame.{ToldCame}
use Rattle.ristulva_c.specs.declared.guard.TheConstants.{CAME_NOTHING, CAME_HANDED_ON, CAME_ANSWERED, CAME_DROPPED}
use Rattle.ristulva_c.specs.declared.sides.SideEvent.{SideEvent}
use Rattle.ristulva_c.specs.declared.sides.SideEvent.TheVariants as event
use Rattle.ristulva_c.specs.declared.sides.TheConstants.{OUTER, INNER, STOOD, UNREACHABLE, CLOSED, STALLED}
use Rattle.ristulva_c.specs.declared.status.TheConstants.{IN_USE, MEMORY, NO_SESSION, OK, RANGE}
use Rattle.ristulva_c.specs.declared.ways.Asks.{Asks}
use Rattle.ristulva_c.specs.Agreed.{one_if, IsKnown}
use Rattle.ristulva_c.specs.Clean.{types_in}
use Rattle.ristulva_c.specs.Context.{is_set}
use Rattle.ristulva_c.specs.Copied.{copied}
use Rattle.ristulva_c.specs.Text as text
use Rattle.ristulva_c.specs.Text.{Writing}

-- ---- numbers

abbrev pub side_of : ℕ → Option Side
side_of n = if n == OUTER then Some side.Outer else (if n == INNER then Some side.Inner else None)

abbrev pub event_of : ℕ → Option SideEvent
event_of n =
    if n == STOOD then Some event.Stood else (
    if n == UNREACHABLE then Some event.Unreachable else (
    if n == CLOSED then Some event.Closed else (
    if n == STALLED then Some event.Stalled else
    None)))

-- what an event does, as its side sees it
abbrev pub rule_of : SideEvent → Sight → Sight
rule_of event.Stood = stood
rule_of event.Unreachable = unreached
rule_of event.Closed = closed
rule_of event.Stalled = stalled

abbrev pub came_told : Came → ToldCame
came_told came.Nothing = record { what = CAME_NOTHING; kind = 0; same = 0; code = 0; subcode = 0 }
came_told (came.Dropped kind) = record { what = CAME_DROPPED; kind = wide_code kind; same = 0; code = 0; subcode = 0 }
came_told (came.HandedOn kind same) = record { what = CAME_HANDED_ON; kind = wide_code kind; same = one_if same; code = 0; subcode = 0 }
came_told (came.Answered code subcode) = record { what = CAME_ANSWERED; kind = 0; same = 0; code = code; subcode = subcode }

-- what the owner is to do for a side
abbrev pub asks_told : Side → Guarding → Asks
asks_told side g = record {
  listens = one_if (listens side g);
  closes = one_if (closes side g);
  ended = one_if (has_ended g);
  way = length (half side g).way;
}

-- ---- a guard is made, and freed

-- unrecognised attributes are left out but for these types, no announcement is refused, and the inner speaker's routes stay inside where that is
-- requested
pub record IsSetTo (pass : List ℕ) (inside : ℕ) (rules : Rules) : Type 0 where
  pub drops : has_octet rules.drops ≡ all_but (types_in pass)
  pub limits : rules.limits ≡ no_limits
  pub first_as : rules.first_as ≡ false
  pub one_way : rules.one_way ≡ is_set inside

abbrev pub IsNew : List ℕ → ℕ → Option Guarding → Type 0
IsNew pass one_way new = (rules : Rules) × (IsSetTo pass one_way rules × (new ≡ Some (fresh rules)))

-- a guard is made where the handle has none, unless an allocation failed
abbrev pub IsMade : List ℕ → ℕ → Option Guarding → ℕ → Option Guarding → Type 0
IsMade pass one_way (Some old) status new = (status ≡ IN_USE) × (new ≡ Some old)
IsMade pass one_way None status new = ((status ≡ OK) × IsNew pass one_way new) ⊎ ((status ≡ MEMORY) × (new ≡ None))

abbrev pub IsFreed : Option Guarding → ℕ → Option Guarding → Type 0
IsFreed None status new = (status ≡ NO_SESSION) × (new ≡ None)
IsFreed (Some old) status new = (status ≡ OK) × (new ≡ None)

-- ---- what happens without octets

-- an invalid number is reported first; a guard continues by what a side sees
abbrev pub GoesOn : Option Side → Option (Sight → Sight) → Option Guarding → ℕ → Option Guarding → Type 0
GoesOn None rule old status new = (status ≡ RANGE) × (new ≡ old)
GoesOn (Some side) None old status new = (status ≡ RANGE) × (new ≡ old)
GoesOn (Some side) (Some rule) None status new = (status ≡ NO_SESSION) × (new ≡ None)
GoesOn (Some side) (Some rule) (Some g) status new = (status ≡ OK) × (new ≡ Some (for_side rule side g))

abbrev pub IsTicked : Option Guarding → ℕ → Option Guarding → Type 0
IsTicked None status new = (status ≡ NO_SESSION) × (new ≡ None)
IsTicked (Some g) status new = (status ≡ OK) × (new ≡ Some (ticked g))

-- the owner ends the session
abbrev pub IsStopped : Option Guarding → ℕ → Option Guarding → Type 0
IsStopped None status new = (status ≡ NO_SESSION) × (new ≡ None)
IsStopped (Some g) status new = (status ≡ OK) × (new ≡ Some (stopped g))

-- for how many seconds what is queued for a side may stay unsent
abbrev pub TellsStall : Option Guarding → ℕ → ℕ → ℕ → Type 0
TellsStall None status before behind = (status ≡ NO_SESSION) × (behind ≡ before)
TellsStall (Some g) status before behind = (status ≡ OK) × (behind ≡ stall_seconds g)

-- ---- received octets

-- what a call has: its status, and the caller's memory before and after it
pub record Hearing : Type 0 where
  pub status : ℕ
  pub old : Option Guarding
  pub new : Option Guarding
  pub taken_before : ℕ
  pub taken_behind : ℕ
  pub came_before : ToldCame
  pub came_behind : ToldCame

-- nothing is changed
pub record IsLeft (answer : ℕ) (h : Hearing) : Type 0 where
  pub status : h.status ≡ answer
  pub guard : h.new ≡ h.old
  pub taken : h.taken_behind ≡ h.taken_before
  pub came : h.came_behind ≡ h.came_before

-- n octets of the piece are consumed, and their result is reported
pub record HearsOf (side : Side) (g : Guarding) (piece : List ℕ) (h : Hearing) : Type 0 where
  pub status : h.status ≡ OK
  pub behind : Guarding
  pub guard : h.new ≡ Some behind
  pub came : Came
  pub heard : IsHeard side g piece h.taken_behind came behind
  pub told : h.came_behind ≡ came_told came

abbrev pub GuardHears : Option Side → Option Guarding → List ℕ → Hearing → Type 0
GuardHears None old piece h = IsLeft RANGE h
GuardHears (Some side) None piece h = IsLeft NO_SESSION h
GuardHears (Some side) (Some g) piece h = HearsOf side g piece h

-- ---- what is required and reported

abbrev pub IsAsked : Option Side → Option Guarding → ℕ → Asks → Asks → Type 0
IsAsked None old status before behind = (status ≡ RANGE) × (behind ≡ before)
IsAsked (Some side) None status before behind = (status ≡ NO_SESSION) × (behind ≡ before)
IsAsked (Some side) (Some g) status before behind = (status ≡ OK) × (behind ≡ asks_told side g)

-- the first queued octets, up to the room of the buffer, are written to it
pub record IsFrontOf (way : List ℕ) (w : Writing) : Type 0 where
  pub status : w.status ≡ OK
  pub buffer : w.behind ≡ copied (take (length w.before) way) w.before
  pub len : w.len_behind ≡ length (take (length w.before) way)

abbrev pub ShowsWay : Option Side → Option Guarding → Writing → Type 0
ShowsWay None old w = text.IsLeft RANGE w
ShowsWay (Some side) None w = text.IsLeft NO_SESSION w
ShowsWay (Some side) (Some g) w = IsFrontOf (half side g).way w

-- what its OPEN said is written; before that was passed on, nothing is
abbrev pub IsPeerTold : Option Side → Option Guarding → ℕ → ToldPeer → ToldPeer → Type 0
IsPeerTold None old status before behind = (status ≡ RANGE) × (behind ≡ before)
IsPeerTold (Some side) None status before behind = (status ≡ NO_SESSION) × (behind ≡ before)
IsPeerTold (Some side) (Some g) status before behind = IsKnown (option_map (λ s. s.said) (half side g).peer) status before behind
