-- Whole lives of a guard: events from its beginning on, in any order.
use Rattle.std.specs.Prelude.{ℕ, Bool, true, false, List, [], ◌∷◌, ◌++◌, take}
use Rattle.bgp_guard.specs.declared.rules.Rules.{Rules}
use Rattle.bgp_guard.specs.declared.side.Side.{Side}
use Rattle.bgp_guard.specs.Guard.{Guarding, Sight, fresh, seen_from, guard_of, is_silent, listens_in, rules_of}
use Rattle.bgp_guard.specs.Hearing.{by_octet}
use Rattle.bgp_guard.specs.Events.{stood, unreached, closed, sent, stalled, stopped, ticked}

-- what happens: a side comes up, can't be reached, sends an octet, has closed, was sent some octets, no longer reads; a second has passed; or the
-- owner ends the session
pub data Event : Type 0 where
  Stood : (of : Side) → Event
  Unreached : (of : Side) → Event
  Octet : (of : Side) → (octet : ℕ) → Event
  Closed : (of : Side) → Event
  Sent : (of : Side) → (count : ℕ) → Event
  Stalled : (of : Side) → Event
  Ticked : Event
  Stopped : Event

-- the octets received from a side, as far as they were consumed, and those that were sent to it
pub record Trail : Type 0 where
  pub came : List ℕ
  pub given : List ℕ

-- as one side sees it
pub record Seen : Type 0 where
  pub sight : Sight
  pub this : Trail
  pub other : Trail

pub record Life : Type 0 where
  pub guard : Guarding
  pub outer : Trail
  pub inner : Trail

abbrev pub no_trail : Trail
no_trail = record { came = []; given = [] }

abbrev pub born : Rules → Life
born rules = record { guard = fresh rules; outer = no_trail; inner = no_trail }

abbrev pub life_from : Side → Life → Seen
life_from Side.Outer a = record { sight = seen_from Side.Outer a.guard; this = a.outer; other = a.inner }
life_from Side.Inner a = record { sight = seen_from Side.Inner a.guard; this = a.inner; other = a.outer }

abbrev pub life_of : Side → Rules → Seen → Life
life_of Side.Outer rules s = record { guard = guard_of Side.Outer rules s.sight; outer = s.this; inner = s.other }
life_of Side.Inner rules s = record { guard = guard_of Side.Inner rules s.sight; outer = s.other; inner = s.this }

-- ---- events, as seen by the side that they concern

abbrev pub by_event : (Sight → Sight) → Seen → Seen
by_event rule s = record s { sight = rule s.sight }

abbrev pub came_behind : Bool → List ℕ → ℕ → List ℕ
came_behind true came octet = came ++ octet ∷ []
came_behind false came octet = came

abbrev pub octet_seen : Rules → Bool → ℕ → Seen → Seen
octet_seen rules silent octet s = record {
  sight = by_octet rules silent s.sight octet;
  this = record s.this { came = came_behind (listens_in s.sight) s.this.came octet };
  other = s.other;
}

abbrev pub sent_seen : ℕ → Seen → Seen
sent_seen n s = record { sight = sent n s.sight; this = record s.this { given = s.this.given ++ take n s.sight.this.way }; other = s.other }

abbrev pub for_side : (Seen → Seen) → Side → Life → Life
for_side rule side a = life_of side a.guard.rules (rule (life_from side a))

abbrev pub happens : Life → Event → Life
happens a (Stood side) = for_side (by_event stood) side a
happens a (Unreached side) = for_side (by_event unreached) side a
happens a (Octet side octet) = for_side (octet_seen (rules_of side a.guard.rules) (is_silent side a.guard.rules) octet) side a
happens a (Closed side) = for_side (by_event closed) side a
happens a (Sent side n) = for_side (sent_seen n) side a
happens a (Stalled side) = for_side (by_event stalled) side a
happens a Ticked = record a { guard = ticked a.guard }
happens a Stopped = record a { guard = stopped a.guard }

abbrev pub life_behind : Life → List Event → Life
life_behind a [] = a
life_behind a (e ∷ later) = life_behind (happens a e) later

-- the life of a guard after these events
abbrev pub life : Rules → List Event → Life
life rules events = life_behind (born rules) events
