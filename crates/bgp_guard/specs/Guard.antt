-- What a guard keeps of its two sides, and its stage.
use Rattle.std.specs.Prelude.{ℕ, zero, suc, Bool, true, false, not, ◌&&◌, nat_le, List, [], length, Option, None}
use Rattle.bgp_frame.specs.declared.kind.WideKind.{WideKind}
use Rattle.bgp_frame.specs.Prelude.{MessageIn, Types, wide_types}
use Rattle.bgp_open.specs.declared.message.Open.{Open}
use Rattle.bgp_open.specs.Prelude.{Said, said_by, said_of}
use Rattle.bgp_terms.specs.declared.offers.Offers.{Offers}
use Rattle.bgp_terms.specs.Prelude.{Offered, offered_by, offered_in}
use Rattle.bgp_clean.specs.Prelude.{no_limits}
use Rattle.bgp_guard.specs.declared.rules.Rules.{Rules}
use Rattle.bgp_guard.specs.declared.side.Side.{Side}
use Rattle.bgp_guard.specs.declared.stage.Stage.{Stage}
use Rattle.bgp_guard.specs.declared.way.TheConstants.{ROOM}

-- the types of message that are read, of at most 4096 octets: those of RFC 4271, and ROUTE-REFRESH (RFC 2918), which is answered where nobody offered it
abbrev pub types : Types WideKind
types = wide_types (record { refresh = true; long = false })

-- a message before its body is judged
abbrev pub Framed : Type 0
Framed = MessageIn WideKind

-- what an OPEN says, and what it offers beyond a context
pub record Spoken : Type 0 where
  pub said : Said
  pub offered : Offered

abbrev pub spoken_by : Open → Spoken
spoken_by o = record { said = said_by o; offered = offered_by o.caps }

abbrev pub spoken_of : Offers → Spoken
spoken_of o = record { said = said_of o.peer; offered = offered_in o }

-- What is kept of a side: whether its connection is up; the octets of an incomplete message received from it; what its OPEN says, once that was
-- passed on; whether its KEEPALIVE was; the octets queued for it; for how many seconds of an established session nothing was passed on to it;
-- and whether it is owed a KEEPALIVE, since a message to it was dropped
pub record Half : Type 0 where
  pub stands : Bool
  pub held : List ℕ
  pub peer : Option Spoken
  pub ready : Bool
  pub way : List ℕ
  pub quiet : ℕ
  pub owed : Bool

abbrev pub absent : Half
absent = record { stands = false; held = []; peer = None; ready = false; way = []; quiet = 0; owed = false }

pub record Guarding : Type 0 where
  pub rules : Rules
  pub stage : Stage
  pub outer : Half
  pub inner : Half

-- no side is up yet
abbrev pub fresh : Rules → Guarding
fresh rules = record { rules = rules; stage = Stage.Runs 0; outer = absent; inner = absent }

abbrev pub other_side : Side → Side
other_side Side.Outer = Side.Inner
other_side Side.Inner = Side.Outer

-- ---- as one side sees it: each rule is written once, for a side and the other

pub record Sight : Type 0 where
  pub stage : Stage
  pub this : Half
  pub other : Half

abbrev pub seen_from : Side → Guarding → Sight
seen_from Side.Outer g = record { stage = g.stage; this = g.outer; other = g.inner }
seen_from Side.Inner g = record { stage = g.stage; this = g.inner; other = g.outer }

abbrev pub guard_of : Side → Rules → Sight → Guarding
guard_of Side.Outer rules s = record { rules = rules; stage = s.stage; outer = s.this; inner = s.other }
guard_of Side.Inner rules s = record { rules = rules; stage = s.stage; outer = s.other; inner = s.this }

-- the routes of this side aren't passed on
abbrev pub is_silent : Side → Rules → Bool
is_silent Side.Outer rules = false
is_silent Side.Inner rules = rules.one_way

-- the rules for the announcements of a side: none for the guarded speaker's own
abbrev pub rules_of : Side → Rules → Rules
rules_of Side.Outer rules = rules
rules_of Side.Inner rules = record rules { limits = no_limits; first_as = false }

-- ---- what it requires of its owner

abbrev pub runs : Stage → Bool
runs (Stage.Runs n) = true
runs (Stage.Ends n) = false

-- nothing is read any more
abbrev pub has_ended : Guarding → Bool
has_ended g = not (runs g.stage)

-- octets of a side are read while messages are passed on, it is up, and what is queued for the other leaves room for a message
abbrev pub listens_in : Sight → Bool
listens_in s = runs s.stage && (s.this.stands && nat_le (length s.other.way) ROOM)

abbrev pub listens : Side → Guarding → Bool
listens side g = listens_in (seen_from side g)

abbrev pub is_empty : List ℕ → Bool
is_empty [] = true
is_empty _ = false

-- a side is to be closed once the guard has ended and nothing is queued for it, or the seconds for that are over
abbrev pub closes_with : Stage → List ℕ → Bool
closes_with (Stage.Runs n) way = false
closes_with (Stage.Ends zero) way = true
closes_with (Stage.Ends (suc n)) way = is_empty way

abbrev pub half : Side → Guarding → Half
half Side.Outer g = g.outer
half Side.Inner g = g.inner

abbrev pub closes : Side → Guarding → Bool
closes side g = closes_with g.stage (half side g).way
