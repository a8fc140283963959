-- Whatever happens, the invariant of both directions is kept.
use Rattle.bgp_guard.proofs.Prelude.{◌≡◌, ℕ, suc, Bool, true, false, List, [], ◌∷◌, ◌++◌, Option, Some, None, refl, sym, ◌∙◌, AllByRecursion, and_parts, ◌&&◌, not, nat_lt}
use Rattle.bgp_guard.proofs.Prelude.{if◌then◌else◌, true≢false, append-nil, IsHeld_nil, Rules, Side, Stage, expired, late_answer, notice, rejected, shutdown, Half, runs, agreed, Notification, Spoken}
use Rattle.bgp_guard.proofs.Prelude.{aged, closed_if, cut_if, farewell, is_due, keeps_alive, kept_if, stopped_if, is_waiting, late, ticked_in, waited, IsHandedOver, HandsOn, HandsOver, IsOctetIn, Event, Stood, Unreached}
use Rattle.bgp_guard.proofs.Prelude.{Octet, Closed, Sent, Stalled, Stopped, Ticked, Life, Seen, Trail, born, by_event, happens, life, life_behind, life_from, sent_seen}
use Rattle.bgp_guard.proofs.Prelude.{OPEN_SECONDS, nothing_waits, rules_of}
use Rattle.bgp_guard.proofs.Hears.{Goes, Lane, octet_goes}
use Rattle.bgp_guard.proofs.Lanes.{Alive, alive_all, alive_ends, alive_own, alive_sent, over_lost, over_sent}
use Rattle.bgp_guard.specs.Guard.{types}
use Rattle.bgp_guard.proofs.Types.{types-are}

module _ (rules theirs : Rules) (silent others : Bool) (this other : Half) (t o : Trail) where
  abbrev seen : Stage → Seen
  seen st = record { sight = record { stage = st; this = this; other = other }; this = t; other = o }

  -- a side gets nothing more
  cut_by : (why : Notification) (st : Stage) (b : Bool) → (b ≡ true → runs st ≡ true) → Goes rules theirs silent others (seen st)
      → Goes rules theirs silent others (by_event (cut_if b why) (seen st))
  cut_by why st false e goes = goes
  cut_by why (Stage.Runs n) true e goes = record {
    this =
        alive_ends rules silent this.held this.peer other.peer t.came o.given other.way goes.this [] t.came (other.way ++ notice why) [] (Some why) (sym (append-nil t.came))
        (append-nil (other.way ++ notice why));
    other = alive_ends theirs others other.held other.peer this.peer o.came t.given this.way goes.other [] o.came [] this.way None (sym (append-nil o.came)) (sym (append-nil this.way));
  }
  cut_by why (Stage.Ends n) true e goes = absurd (true≢false (sym (e refl)))

  -- a side has closed
  closed_by : (st : Stage) (b : Bool) → Goes rules theirs silent others (seen st) → Goes rules theirs silent others (by_event (closed_if b) (seen st))
  closed_by st false goes = goes
  closed_by (Stage.Runs n) true goes = record {
    this =
        alive_ends rules silent this.held this.peer other.peer t.came o.given other.way goes.this [] t.came other.way [] None (sym (append-nil t.came))
        (append-nil other.way ∙ sym (append-nil other.way));
    other =
        alive_ends theirs others other.held other.peer this.peer o.came t.given this.way goes.other [] o.came [] this.way None (sym (append-nil o.came))
        (sym (append-nil this.way));
  }
  closed_by (Stage.Ends n) true goes = record {
    this = goes.this;
    other = over_lost theirs others (agreed other.peer this.peer) other.peer o.came t.given this.way goes.other;
  }

  -- octets are sent to a side
  sent_by : (st : Stage) (n : ℕ) → Goes rules theirs silent others (seen st) → Goes rules theirs silent others (sent_seen n (seen st))
  sent_by (Stage.Runs s) n goes = record { this = goes.this; other = alive_sent theirs others n other.held other.peer this.peer o.came t.given this.way goes.other }
  sent_by (Stage.Ends s) n goes = record { this = goes.this; other = over_sent theirs others n (agreed other.peer this.peer) other.peer o.came t.given this.way goes.other }

-- ---- a guard

-- both directions, as the outer side sees them
abbrev Holds : Life → Type 0
Holds a = Goes a.guard.rules (rules_of Side.Inner a.guard.rules) false a.guard.rules.one_way (life_from Side.Outer a)

-- and as the inner side does
turned : (a : Life) → Holds a → Goes (rules_of Side.Inner a.guard.rules) a.guard.rules a.guard.rules.one_way false (life_from Side.Inner a)
turned a h = record { this = h.other; other = h.this }

turned_back : (a : Life) → Goes (rules_of Side.Inner a.guard.rules) a.guard.rules a.guard.rules.one_way false (life_from Side.Inner a) → Holds a
turned_back a h = record { this = h.other; other = h.this }

late_holds : (rules : Rules) (n : ℕ) (outer inner : Half) (t o : Trail)
    → Holds (record { guard = record { rules = rules; stage = Stage.Runs n; outer = outer; inner = inner }; outer = t; inner = o })
    → Holds (record { guard = late (record { rules = rules; stage = Stage.Runs n; outer = outer; inner = inner }); outer = t; inner = o })
late_holds rules n outer inner t o h = record {
  this =
      alive_ends rules false outer.held outer.peer inner.peer t.came o.given inner.way h.this [] t.came (inner.way ++ notice (late_answer inner.peer)) [] (Some (late_answer inner.peer))
      (sym (append-nil t.came)) (append-nil (inner.way ++ notice (late_answer inner.peer)));
  other =
      alive_ends (rules_of Side.Inner rules) rules.one_way inner.held inner.peer outer.peer o.came t.given outer.way h.other [] o.came (outer.way ++ notice (late_answer outer.peer)) [] (Some (late_answer outer.peer))
      (sym (append-nil o.came)) (append-nil (outer.way ++ notice (late_answer outer.peer)));
}

-- KEEPALIVEs of the guard's own
kept_holds : (rules : Rules) (n : ℕ) (outer inner : Half) (t o : Trail) (b : Bool) (hold : ℕ)
    → Holds (record { guard = record { rules = rules; stage = Stage.Runs n; outer = outer; inner = inner }; outer = t; inner = o })
    → Holds (record { guard = kept_if b hold (record { rules = rules; stage = Stage.Runs n; outer = outer; inner = inner }); outer = t; inner = o })
kept_holds rules n outer inner t o false hold h = h
kept_holds rules n outer inner t o true hold h = record {
  this = alive_own rules false (is_due hold (aged inner)) outer.held outer.peer inner.peer t.came o.given inner.way h.this;
  other = alive_own (rules_of Side.Inner rules) rules.one_way (is_due hold (aged outer)) inner.held inner.peer outer.peer o.came t.given outer.way h.other;
}

waited_holds : (rules : Rules) (n : ℕ) (outer inner : Half) (t o : Trail) (b : Bool)
    → Holds (record { guard = record { rules = rules; stage = Stage.Runs n; outer = outer; inner = inner }; outer = t; inner = o })
    → Holds (record { guard = waited n b (record { rules = rules; stage = Stage.Runs n; outer = outer; inner = inner }); outer = t; inner = o })
waited_holds rules n outer inner t o false h =
    let hold = (agreed outer.peer inner.peer).context.hold in
    kept_holds rules n outer inner t o (keeps_alive hold (record { rules = rules; stage = Stage.Runs n; outer = outer; inner = inner })) hold h
waited_holds rules n outer inner t o true h = by (nat_lt (suc n) OPEN_SECONDS)
  where
    by : (b : Bool) → Holds (record {
      guard = if b then record { rules = rules; stage = Stage.Runs (suc n); outer = outer; inner = inner } else late (record { rules = rules; stage = Stage.Runs n; outer = outer; inner = inner });
      outer = t;
      inner = o;
    })
    by true = record { this = h.this; other = h.other }
    by false = late_holds rules n outer inner t o h

ticked_holds : (rules : Rules) (st : Stage) (outer inner : Half) (t o : Trail)
    → Holds (record { guard = record { rules = rules; stage = st; outer = outer; inner = inner }; outer = t; inner = o })
    → Holds (record { guard = ticked_in st (record { rules = rules; stage = st; outer = outer; inner = inner }); outer = t; inner = o })
ticked_holds rules (Stage.Runs n) outer inner t o h =
    waited_holds rules n outer inner t o (is_waiting (record { rules = rules; stage = Stage.Runs n; outer = outer; inner = inner })) h
ticked_holds rules (Stage.Ends n) outer inner t o h = record { this = h.this; other = h.other }

-- the owner ends the session
dismissed_lane : (rules : Rules) (silent : Bool) (held : List ℕ) (kept others : Option Spoken) (came given way : List ℕ) (b : Bool) → Alive rules silent held kept others came given way
    → IsHandedOver rules silent (agreed kept others) kept came given (farewell b way)
dismissed_lane rules silent held kept others came given way true a =
    alive_ends rules silent held kept others came given way a [] came (way ++ notice shutdown) [] (Some shutdown) (sym (append-nil came)) (append-nil (way ++ notice shutdown))
dismissed_lane rules silent held kept others came given way false a =
    alive_ends rules silent held kept others came given way a [] came [] way None (sym (append-nil came)) (sym (append-nil way))

stopped_holds : (rules : Rules) (st : Stage) (outer inner : Half) (t o : Trail) (b : Bool) → (b ≡ true → runs st ≡ true)
    → Holds (record { guard = record { rules = rules; stage = st; outer = outer; inner = inner }; outer = t; inner = o })
    → Holds (record { guard = stopped_if b (record { rules = rules; stage = st; outer = outer; inner = inner }); outer = t; inner = o })
stopped_holds rules st outer inner t o false up h = h
stopped_holds rules (Stage.Runs n) outer inner t o true up h = record {
  this = dismissed_lane rules false outer.held outer.peer inner.peer t.came o.given inner.way inner.stands h.this;
  other = dismissed_lane (rules_of Side.Inner rules) rules.one_way inner.held inner.peer outer.peer o.came t.given outer.way outer.stands h.other;
}
stopped_holds rules (Stage.Ends n) outer inner t o true up h = absurd (true≢false (sym (up refl)))

happens_holds : (a : Life) (e : Event) → IsOctetIn e → Holds a → Holds (happens a e)
happens_holds a (Stood Side.Outer) is h = record { this = h.this; other = h.other }
happens_holds a (Stood Side.Inner) is h = record { this = h.this; other = h.other }
happens_holds a (Unreached Side.Outer) is h =
    cut_by a.guard.rules (rules_of Side.Inner a.guard.rules) false a.guard.rules.one_way a.guard.outer a.guard.inner a.outer a.inner rejected a.guard.stage (runs a.guard.stage && not a.guard.outer.stands)
    (λ both. (and_parts (runs a.guard.stage) (not a.guard.outer.stands) both).0) h
happens_holds a (Unreached Side.Inner) is h =
    turned_back (happens a (Unreached Side.Inner))
    (cut_by (rules_of Side.Inner a.guard.rules) a.guard.rules a.guard.rules.one_way false a.guard.inner a.guard.outer a.inner a.outer rejected a.guard.stage (runs a.guard.stage && not a.guard.inner.stands)
    (λ both. (and_parts (runs a.guard.stage) (not a.guard.inner.stands) both).0) (turned a h))
happens_holds a (Octet Side.Outer octet) is h = octet_goes a.guard.rules (rules_of Side.Inner a.guard.rules) false a.guard.rules.one_way octet (life_from Side.Outer a) is h
happens_holds a (Octet Side.Inner octet) is h =
    turned_back (happens a (Octet Side.Inner octet)) (octet_goes (rules_of Side.Inner a.guard.rules) a.guard.rules a.guard.rules.one_way false octet (life_from Side.Inner a) is (turned a h))
happens_holds a (Closed Side.Outer) is h =
    closed_by a.guard.rules (rules_of Side.Inner a.guard.rules) false a.guard.rules.one_way a.guard.outer a.guard.inner a.outer a.inner a.guard.stage a.guard.outer.stands h
happens_holds a (Closed Side.Inner) is h =
    turned_back (happens a (Closed Side.Inner))
    (closed_by (rules_of Side.Inner a.guard.rules) a.guard.rules a.guard.rules.one_way false a.guard.inner a.guard.outer a.inner a.outer a.guard.stage a.guard.inner.stands (turned a h))
happens_holds a (Sent Side.Outer n) is h = sent_by a.guard.rules (rules_of Side.Inner a.guard.rules) false a.guard.rules.one_way a.guard.outer a.guard.inner a.outer a.inner a.guard.stage n h
happens_holds a (Sent Side.Inner n) is h =
    turned_back (happens a (Sent Side.Inner n)) (sent_by (rules_of Side.Inner a.guard.rules) a.guard.rules a.guard.rules.one_way false a.guard.inner a.guard.outer a.inner a.outer a.guard.stage n (turned a h))
happens_holds a (Stalled Side.Outer) is h =
    cut_by a.guard.rules (rules_of Side.Inner a.guard.rules) false a.guard.rules.one_way a.guard.outer a.guard.inner a.outer a.inner expired a.guard.stage (runs a.guard.stage) (λ up. up) h
happens_holds a (Stalled Side.Inner) is h =
    turned_back (happens a (Stalled Side.Inner))
    (cut_by (rules_of Side.Inner a.guard.rules) a.guard.rules a.guard.rules.one_way false a.guard.inner a.guard.outer a.inner a.outer expired a.guard.stage (runs a.guard.stage) (λ up. up) (turned a h))
happens_holds a Stopped is h = stopped_holds a.guard.rules a.guard.stage a.guard.outer a.guard.inner a.outer a.inner (runs a.guard.stage) (λ up. up) h
happens_holds a Ticked is h = ticked_holds a.guard.rules a.guard.stage a.guard.outer a.guard.inner a.outer a.inner h

holds_behind : (a : Life) (events : List Event) → AllByRecursion IsOctetIn events → Holds a → Holds (life_behind a events)
holds_behind a [] all h = h
holds_behind a (e ∷ later) all h = holds_behind (happens a e) later all.1 (happens_holds a e all.0 h)

born_lane : (rules : Rules) (silent : Bool) → Alive rules silent [] None None [] [] []
born_lane rules silent = record {
  messages = [];
  row = [];
  whole = refl;
  frames = refl;
  can_hold = IsHeld_nil types types-are;
  waits = nothing_waits types types-are;
  opened = refl;
  hands = λ ctx fits. record { said = []; hands = refl; handed = []; between = refl; is = refl };
  none = tt;
}

-- ---- the law

lane_hands : (rules : Rules) (st : Stage) (silent : Bool) (a b : Half) (came given : List ℕ) → Lane rules st silent a.held a.peer b.peer came given b.way
    → HandsOver st rules silent a.peer b.peer came given b.way
lane_hands rules (Stage.Runs n) silent a b came given lane = alive_all rules silent a.held a.peer b.peer came given b.way lane
lane_hands rules (Stage.Ends n) silent a b came given lane = lane

hands_on : (a : Life) (of : Side) → Holds a → HandsOn a of
hands_on a Side.Outer h = lane_hands a.guard.rules a.guard.stage false a.guard.outer a.guard.inner a.outer.came a.inner.given h.this
hands_on a Side.Inner h = lane_hands (rules_of Side.Inner a.guard.rules) a.guard.stage a.guard.rules.one_way a.guard.inner a.guard.outer a.inner.came a.outer.given h.other

pub a_guard_hands_on : (rules : Rules) (events : List Event) (of : Side) → AllByRecursion IsOctetIn events → HandsOn (life rules events) of
a_guard_hands_on rules events of all =
    hands_on (life rules events) of (holds_behind (born rules) events all (record { this = born_lane rules false; other = born_lane (rules_of Side.Inner rules) rules.one_way }))
