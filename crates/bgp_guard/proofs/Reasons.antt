-- Why a guard has ended.
use Rattle.bgp_guard.proofs.Prelude.{◌≡◌, ◌≤◌, ℕ, suc, Bool, true, false, List, [], ◌∷◌, ◌++◌, Option, Some, None, Result, Ok, Err, refl, sym, ap, subst, ◌∙◌}
use Rattle.bgp_guard.proofs.Prelude.{append_assoc, and_parts, ltb-false, not-true, ◌&&◌, ◌||◌, not, nat_lt, is_some, if◌then◌else◌, true≢false, HeadFault}
use Rattle.bgp_guard.proofs.Prelude.{Kind, WideKind, content_of_in, Framed, WideMessage, types, Rules, Stage, Answers, Guarding, Sight, listens_in, runs, comes_of, rules_of, done, heard_as, holding}
use Rattle.bgp_guard.proofs.Prelude.{octet_by, agreed, closed_if, cut_if, keeps_alive, kept_if, rejected, is_waiting, ticked_in, waited, late, Notification, EndsBy, EndsContent, EndsHearing, HasReason}
use Rattle.bgp_guard.proofs.Prelude.{IsLast, IsAnsweredOr, RunsOrHasReason, Event, Stood, Unreached, Octet, Closed, Sent, Stalled, Stopped, Ticked, Life, born, happens, life}
use Rattle.bgp_guard.proofs.Prelude.{life_behind, life_from, Side, OPEN_SECONDS}
use Rattle.bgp_frame.specs.declared.kind.WideKind.TheVariants as wide

-- ---- octets

kind_ends : (silent : Bool) (s : Sight) (k : WideKind) (m : Framed) (r : Result (List WideMessage) Answers) → runs s.stage ≡ true → k ≡ m.kind → runs (done silent s k r).stage ≡ false
    → IsAnsweredOr r m
kind_ends silent s k m (Err answers) ran same ends = tt
kind_ends silent s (wide.Base Kind.Notification) m (Ok n) ran same ends = sym same
kind_ends silent s (wide.Base Kind.Open) m (Ok n) ran same ends = absurd (true≢false (sym ran ∙ ends))
kind_ends silent s (wide.Base Kind.Update) m (Ok n) ran same ends = absurd (true≢false (sym ran ∙ ends))
kind_ends silent s (wide.Base Kind.Keepalive) m (Ok n) ran same ends = absurd (true≢false (sym ran ∙ ends))
kind_ends silent s wide.Refresh m (Ok n) ran same ends = absurd (true≢false (sym ran ∙ ends))

content_ends : (rules : Rules) (silent : Bool) (s : Sight) (held : List ℕ) (c : Option (Result Framed HeadFault)) → runs s.stage ≡ true
    → runs (heard_as rules silent (holding s held) c).stage ≡ false → EndsContent rules s c
content_ends rules silent s held None ran ends = absurd (true≢false (sym ran ∙ ends))
content_ends rules silent s held (Some (Ok m)) ran ends = kind_ends silent (holding s []) m.kind m (comes_of rules (holding s []) m) ran refl ends
content_ends rules silent s held (Some (Err fault)) ran ends = tt

octet_ends : (rules : Rules) (silent : Bool) (s : Sight) (octet : ℕ) (b : Bool) → listens_in s ≡ b → runs s.stage ≡ true → runs (octet_by b rules silent s octet).stage ≡ false
    → EndsHearing rules s octet
octet_ends rules silent s octet true up ran ends =
    (up, content_ends rules silent s (s.this.held ++ octet ∷ []) (content_of_in types (s.this.held ++ octet ∷ [])) ran ends)
octet_ends rules silent s octet false up ran ends = absurd (true≢false (sym ran ∙ ends))

-- ---- other events

unreached_ends : (why : Notification) (s : Sight) (b : Bool) → (runs s.stage && not s.this.stands) ≡ b → runs s.stage ≡ true → runs (cut_if b why s).stage ≡ false → s.this.stands ≡ false
unreached_ends why s true is ran ends = not-true s.this.stands (and_parts (runs s.stage) (not s.this.stands) is).1
unreached_ends why s false is ran ends = absurd (true≢false (sym ran ∙ ends))

closed_ends : (s : Sight) (b : Bool) → s.this.stands ≡ b → runs s.stage ≡ true → runs (closed_if b s).stage ≡ false → s.this.stands ≡ true
closed_ends s true is ran ends = is
closed_ends s false is ran ends = absurd (true≢false (sym ran ∙ ends))

late_at : (g : Guarding) (n : ℕ) (b : Bool) → nat_lt (suc n) OPEN_SECONDS ≡ b → runs (if b then record g { stage = Stage.Runs (suc n) } else late g).stage ≡ false → OPEN_SECONDS ≤ suc n
late_at g n true is ends = absurd (true≢false ends)
late_at g n false is ends = ltb-false (suc n) OPEN_SECONDS is

waited_ends : (g : Guarding) (n : ℕ) (b : Bool) → is_waiting g ≡ b → runs g.stage ≡ true → runs (waited n b g).stage ≡ false
    → (OPEN_SECONDS ≤ suc n) × ((is_some g.outer.peer && is_some g.inner.peer) ≡ false)
waited_ends g n true is ran ends = (
  late_at g n (nat_lt (suc n) OPEN_SECONDS) refl ends,
  not-true (is_some g.outer.peer && is_some g.inner.peer) (and_parts (g.outer.stands || g.inner.stands) (not (is_some g.outer.peer && is_some g.inner.peer)) is).1,
)
waited_ends g n false is ran ends =
    let hold = (agreed g.outer.peer g.inner.peer).context.hold in
    absurd (true≢false (sym ran ∙ sym (kept_runs (keeps_alive hold g) hold) ∙ ends))
  where
    kept_runs : (b : Bool) (hold : ℕ) → runs (kept_if b hold g).stage ≡ runs g.stage
    kept_runs true hold = refl
    kept_runs false hold = refl

ticked_ends : (g : Guarding) (st : Stage) → runs st ≡ true → runs g.stage ≡ true → runs (ticked_in st g).stage ≡ false
    → IsLast st × ((is_some g.outer.peer && is_some g.inner.peer) ≡ false)
ticked_ends g (Stage.Runs n) up ran ends = waited_ends g n (is_waiting g) refl ran ends
ticked_ends g (Stage.Ends n) up ran ends = absurd (true≢false (sym up))

event_ends : (a : Life) (e : Event) → runs a.guard.stage ≡ true → runs (happens a e).guard.stage ≡ false → EndsBy a e
event_ends a (Stood Side.Outer) ran ends = absurd (true≢false (sym ran ∙ ends))
event_ends a (Stood Side.Inner) ran ends = absurd (true≢false (sym ran ∙ ends))
event_ends a (Unreached Side.Outer) ran ends =
    unreached_ends rejected (life_from Side.Outer a).sight (runs a.guard.stage && not a.guard.outer.stands) refl ran ends
event_ends a (Unreached Side.Inner) ran ends =
    unreached_ends rejected (life_from Side.Inner a).sight (runs a.guard.stage && not a.guard.inner.stands) refl ran ends
event_ends a (Octet Side.Outer octet) ran ends =
    octet_ends a.guard.rules false (life_from Side.Outer a).sight octet (listens_in (life_from Side.Outer a).sight) refl ran ends
event_ends a (Octet Side.Inner octet) ran ends =
    octet_ends (rules_of Side.Inner a.guard.rules) a.guard.rules.one_way (life_from Side.Inner a).sight octet (listens_in (life_from Side.Inner a).sight) refl ran ends
event_ends a (Closed Side.Outer) ran ends = closed_ends (life_from Side.Outer a).sight a.guard.outer.stands refl ran ends
event_ends a (Closed Side.Inner) ran ends = closed_ends (life_from Side.Inner a).sight a.guard.inner.stands refl ran ends
event_ends a (Sent Side.Outer n) ran ends = absurd (true≢false (sym ran ∙ ends))
event_ends a (Sent Side.Inner n) ran ends = absurd (true≢false (sym ran ∙ ends))
event_ends a (Stalled Side.Outer) ran ends = tt
event_ends a (Stalled Side.Inner) ran ends = tt
event_ends a Stopped ran ends = tt
event_ends a Ticked ran ends = ticked_ends a.guard a.guard.stage ran ran ends

-- ---- lists of events

behind_append : (a : Life) (before after : List Event) → life_behind a (before ++ after) ≡ life_behind (life_behind a before) after
behind_append a [] after = refl
behind_append a (e ∷ before) after = behind_append (happens a e) before after

-- an event after which the guard runs, or has ended
reason_at : (rules : Rules) (before : List Event) (e : Event) (later : List Event) → runs (life rules before).guard.stage ≡ true
    → (runs (life rules (before ++ e ∷ [])).guard.stage ≡ true → HasReason rules ((before ++ e ∷ []) ++ later))
    → (b : Bool) → runs (happens (life rules before) e).guard.stage ≡ b → HasReason rules (before ++ e ∷ later)
reason_at rules before e later ran again true on =
    subst (HasReason rules) (append_assoc before (e ∷ []) later) (again (ap (λ (a : Life). runs a.guard.stage) (behind_append (born rules) before (e ∷ [])) ∙ on))
reason_at rules before e later ran again false off = record { before = before; event = e; behind = later; is = refl; ran = ran; ends = event_ends (life rules before) e ran off }

-- for later events, where the guard runs after the earlier ones
reason_behind : (rules : Rules) (before later : List Event) → runs (life rules before).guard.stage ≡ true → runs (life_behind (life rules before) later).guard.stage ≡ false
    → HasReason rules (before ++ later)
reason_behind rules before [] ran ends = absurd (true≢false (sym ran ∙ ends))
reason_behind rules before (e ∷ later) ran ends =
    reason_at rules before e later ran
    (λ on. reason_behind rules (before ++ e ∷ []) later on (ap (λ (a : Life). runs (life_behind a later).guard.stage) (behind_append (born rules) before (e ∷ [])) ∙ ends))
    (runs (happens (life rules before) e).guard.stage) refl

pub a_guard_has_reason : (rules : Rules) (events : List Event) → RunsOrHasReason (life rules events).guard.stage rules events
a_guard_has_reason rules events = by (life rules events).guard.stage refl
  where
    by : (st : Stage) → (life rules events).guard.stage ≡ st → RunsOrHasReason st rules events
    by (Stage.Runs n) e = tt
    by (Stage.Ends n) e = reason_behind rules [] events refl (ap runs e)
