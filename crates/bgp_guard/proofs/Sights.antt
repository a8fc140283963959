-- What a side sees after an event.
use Rattle.bgp_guard.proofs.Prelude.{◌≡◌, ℕ, suc, ◌+◌, ◌<◌, ◌≤◌, ◌&&◌, and_parts, subst, Bool, true, false, List, [], ◌∷◌, ◌++◌, ◌||◌, length, nat_lt, Result, refl, sym, ap, ap₂, ◌∙◌, arith, le-ltb, ◌↔◌, if◌then◌else◌}
use Rattle.bgp_guard.proofs.Prelude.{true≢false, inl, inr, has_octet, Kind, WideKind, Agreed, Framed, Message, WideMessage, out_in, outcome_value, canonical_in, CleanFault, cleaned_in, Rules, Stage, Half}
use Rattle.bgp_guard.proofs.Prelude.{Guarding, Sight, runs, Answers, answered, reject_both, answers_to, cleans, refusal, terms_in, handed_on, handed_or, said_as}
use Rattle.bgp_guard.proofs.Prelude.{stage_behind, told_late, aged, agreed, is_due, is_empty, keepalive, keeps_alive, kept, kept_alive, kept_if, kept_in, reminded, IsHandedOn, IsPassedOn, Came, Dropped, flat_map, dismissed, stopped, stopped_if, late, waited, HasRoom, half_behind, handed_to, is_dropped, left_of, IsReadUpdate, append-nil}
use Rattle.bgp_guard.proofs.Prelude.{limits_in, refuses_in, IsCleanedIn, Option, Spoken}
use Rattle.bgp_clean.specs.declared.limits.Limits.{Limits}
use Rattle.bgp_clean.specs.declared.cleaned.Cleaned.{Cleaned}
use Rattle.std.specs.Prelude.{◌==◌, ◌*◌, not, min, nat_le}
use Rattle.std.proofs.lemmas.Bool.{ne_eqb}
use Rattle.std.specs.Str.{bytes_eq}
use Rattle.std.proofs.lemmas.Slice.Eq.{bytes_eq-Decides}
use Rattle.bgp_frame.specs.declared.kind.WideKind.TheVariants as wide
use Rattle.bgp_terms.specs.declared.refreshes.Refreshes.TheVariants as refreshes
use Rattle.bgp_frame.specs.declared.notification.NotificationView.{NotificationView}
use Rattle.bgp_msg.specs.declared.outcome_view.OutcomeView.{OutcomeView}

-- ---- a second

pub late_waited : (g : Guarding) (n : ℕ) (outer inner : Half) → 239 ≤ n → outer ≡ told_late g.outer → inner ≡ told_late g.inner
    → record { rules = g.rules; stage = Stage.Ends 10; outer = outer; inner = inner } ≡ waited n true g
late_waited g n outer inner over o i =
    ap₂ (λ (x y : Half). record { rules = g.rules; stage = Stage.Ends 10; outer = x; inner = y }) o i
    ∙ sym (ap (λ (b : Bool). if b then record g { stage = Stage.Runs (suc n) } else late g) (le-ltb (suc n) 240 (omega (arith, over))))

-- the owner ends the session
pub ended_by : (g : Guarding) (outer inner : Half) (n : ℕ) → g.stage ≡ Stage.Runs n → outer ≡ dismissed g.outer → inner ≡ dismissed g.inner
    → record { rules = g.rules; stage = Stage.Ends 10; outer = outer; inner = inner } ≡ stopped g
ended_by g outer inner n runs_on o i =
    ap₂ (λ (x y : Half). record { rules = g.rules; stage = Stage.Ends 10; outer = x; inner = y }) o i
    ∙ sym (ap (λ (s : Stage). stopped_if (runs s) g) runs_on)

-- ---- KEEPALIVEs of its own

no_way : (way : List ℕ) → is_empty way ≡ true → way ≡ []
no_way [] e = refl
no_way (octet ∷ way) e = absurd (true≢false (sym e))

-- where one is due nothing is queued
pub due_empty : (hold : ℕ) (h : Half) → is_due hold h ≡ true → h.way ≡ []
due_empty hold h due =
    let rest = (and_parts h.owed (is_empty h.way && nat_le hold (3 * h.quiet)) due).1 in
    no_way h.way (and_parts (is_empty h.way) (nat_le hold (3 * h.quiet)) rest).0

module _ (hold : ℕ) (h : Half) (quiet : ℕ) (due : Bool) (is : quiet ≡ min (h.quiet + 1) 65535) (asked : due ≡ is_due hold (record h { quiet = quiet })) where
  same_due : (b : Bool) → due ≡ b → reminded b (aged h) ≡ kept hold h
  same_due b e = ap (λ (x : Bool). reminded x (aged h)) (sym e ∙ asked ∙ ap (λ (q : ℕ). is_due hold (record h { quiet = q })) is)

  pub kept_due : (way : List ℕ) → due ≡ true → way ≡ h.way ++ keepalive → record h { way = way; quiet = 0; owed = false } ≡ kept hold h
  kept_due way on put = ap (λ (w : List ℕ). record h { way = w; quiet = 0; owed = false }) put ∙ same_due true on

  pub kept_on : due ≡ false → record h { quiet = quiet } ≡ kept hold h
  kept_on off = ap₂ (λ (w : List ℕ) (q : ℕ). record h { way = w; quiet = q }) (sym (append-nil h.way)) is ∙ same_due false off

all_three : (a b c : Bool) → a ≡ false → b ≡ true → c ≡ true → (not a && (b && c)) ≡ true
all_three false true true d e f = refl
all_three true b c d e f = absurd (true≢false d)
all_three false false c d e f = absurd (true≢false (sym e))
all_three false true false d e f = absurd (true≢false (sym f))

pub keeps_by : (hold : ℕ) (a b : Bool) → (hold ≡ 0 → ⊥) → a ≡ true → b ≡ true → (not (hold == 0) && (a && b)) ≡ true
keeps_by hold a b some e f = all_three (hold == 0) a b (ne_eqb hold 0 some) e f

pub kept_both : (g : Guarding) (hold : ℕ) (outer inner : Half) → hold ≡ (agreed g.outer.peer g.inner.peer).context.hold → keeps_alive hold g ≡ true → outer ≡ kept hold g.outer
    → inner ≡ kept hold g.inner → record { rules = g.rules; stage = g.stage; outer = outer; inner = inner } ≡ kept_alive g
kept_both g hold outer inner same keeps o i =
    ap₂ (λ (x y : Half). record g { outer = x; inner = y }) o i
    ∙ ap (λ (b : Bool). kept_if b hold g) (sym keeps)
    ∙ ap (λ (x : ℕ). kept_in x g) same

-- ---- answers

pub no_reset : (v : OutcomeView) → ((why : NotificationView) → v ≡ OutcomeView.Reset why → ⊥) → answers_to (inl (outcome_value v)) ≡ reject_both
no_reset (OutcomeView.Open x) not = refl
no_reset (OutcomeView.Update x) not = refl
no_reset (OutcomeView.Notification x) not = refl
no_reset OutcomeView.Keepalive not = refl
no_reset (OutcomeView.Withdraw x) not = refl
no_reset (OutcomeView.Reset why) not = absurd (not why refl)

pub over : (s t : Sight) (a : Answers) → t ≡ answered s a → runs t.stage ≡ false
over s t a e = ap (λ (x : Sight). runs x.stage) e

-- so there may be anything in the queue
pub no_room : (stage : Stage) (way : List ℕ) → runs stage ≡ false → HasRoom stage way
no_room stage way not = λ up. absurd (true≢false (sym up ∙ not))

-- ---- a message that is passed on

-- the length of what replaces an UPDATE or a ROUTE-REFRESH shows whether it is dropped
pub dropped_by : (silent short : Bool) (ns : List WideMessage) (b : List ℕ) → short ≡ nat_lt (length b) 23 → IsReadUpdate ns b → (silent || short) ≡ is_dropped (left_of silent ns)
dropped_by true short ns b is read = refl
dropped_by false short (inl (Message.Update u) ∷ later) b is read = is ∙ le-ltb (length b) 23 read
dropped_by false short (inr r ∷ later) b is read = is ∙ le-ltb (length b) 23 read
dropped_by false short (inl Message.Keepalive ∷ []) b is read = is ∙ ap (λ (k : ℕ). nat_lt k 23) read
dropped_by false short (inl Message.Keepalive ∷ n ∷ later) b is read = absurd read
dropped_by false short (inl (Message.Open o) ∷ later) b is read = absurd read
dropped_by false short (inl (Message.Notification n) ∷ later) b is read = absurd read
dropped_by false short [] b is read = absurd read

left_all : (silent : Bool) (ns : List WideMessage) → is_dropped (left_of silent ns) ≡ false → (left_of silent ns ≡ ns) × (0 < length ns)
left_all true ns e = absurd (true≢false e)
left_all false (inl (Message.Update u) ∷ later) e = (refl, omega arith)
left_all false (inl (Message.Open o) ∷ later) e = (refl, omega arith)
left_all false (inl (Message.Notification n) ∷ later) e = (refl, omega arith)
left_all false (inr r ∷ later) e = (refl, omega arith)
left_all false (inl Message.Keepalive ∷ later) e = absurd (true≢false e)
left_all false [] e = absurd (true≢false e)

some_said : (ns : List WideMessage) → is_dropped ns ≡ false → 0 < length ns
some_said [] e = absurd (true≢false e)
some_said (n ∷ later) e = omega arith

pub said_all : (silent : Bool) (kind : WideKind) (ns : List WideMessage) → is_dropped (said_as silent kind ns) ≡ false → (said_as silent kind ns ≡ ns) × (0 < length ns)
said_all silent (wide.Base Kind.Update) ns e = left_all silent ns e
said_all silent (wide.Base Kind.Open) ns e = (refl, some_said ns e)
said_all silent (wide.Base Kind.Notification) ns e = (refl, some_said ns e)
said_all silent (wide.Base Kind.Keepalive) ns e = (refl, some_said ns e)
said_all silent wide.Refresh ns e = left_all false ns e

-- no message but an UPDATE and a ROUTE-REFRESH is dropped
pub kept_whole : (ns : List WideMessage) → 0 < length ns → false ≡ is_dropped ns
kept_whole [] some = absurd (omega (arith, some))
kept_whole (n ∷ later) some = refl

pub said_none : (said : List WideMessage) → is_dropped said ≡ true → said ≡ []
said_none [] e = refl
said_none (n ∷ later) e = absurd (true≢false (sym e))

pub told_none : (terms : Agreed) (kind : WideKind) (octets : List ℕ) (said : List WideMessage) → said ≡ [] → IsPassedOn terms kind octets said (Dropped kind)
told_none terms kind octets said none = subst (λ (x : List WideMessage). IsPassedOn terms kind octets x (Dropped kind)) (sym none) refl

pub told_some : (terms : Agreed) (kind : WideKind) (octets : List ℕ) (said ns : List WideMessage) (came : Came) → said ≡ ns → 0 < length ns
    → IsHandedOn kind octets (flat_map (canonical_in terms) ns) came → IsPassedOn terms kind octets said came
told_some terms kind octets said [] came same some is = absurd (omega (arith, some))
told_some terms kind octets said (n ∷ later) came same some is = subst (λ (x : List WideMessage). IsPassedOn terms kind octets x came) (sym same) is

pub handed_some : (terms : Agreed) (ns : List WideMessage) (h : Half) (way : List ℕ) → 0 < length ns → way ≡ h.way ++ flat_map (canonical_in terms) ns
    → record h { way = way; quiet = 0; owed = false } ≡ handed_to terms ns h
handed_some terms [] h way some is = absurd (omega (arith, some))
handed_some terms (n ∷ later) h way some is = ap (λ (w : List ℕ). record h { way = w; quiet = 0; owed = false }) is

pub handed_none : (terms : Agreed) (said : List WideMessage) (h : Half) → said ≡ [] → record h { owed = true } ≡ handed_to terms said h
handed_none terms said h none =
    ap (λ (w : List ℕ). record h { way = w; owed = true }) (sym (append-nil h.way))
    ∙ ap (λ (x : List WideMessage). handed_to terms x h) (sym none)

pub handed : (silent : Bool) (s : Sight) (kind : WideKind) (n : List WideMessage) (stage : Stage) (this other : Half) → stage ≡ stage_behind kind s.stage
    → this ≡ half_behind kind n s.this → other ≡ handed_to (terms_in s) (said_as silent kind n) s.other
    → record { stage = stage; this = this; other = other } ≡ handed_on silent s kind n
handed silent s kind n stage this other a b c =
    ap₂ (λ (x : Stage) (y : Half). record { stage = x; this = y; other = other }) a b
    ∙ ap (λ (x : Half). record { stage = stage_behind kind s.stage; this = half_behind kind n s.this; other = x }) c

-- what is cleaned by the terms of both sides
pub cleans_by : (rules : Rules) (s : Sight) (m : Framed) (terms : Agreed) (r : Result (List WideMessage) CleanFault) → terms ≡ terms_in s
    → cleaned_in refreshes.Plain terms (has_octet rules.drops) (refusal rules terms.context s.this.peer) true m ≡ r → cleans rules s m ≡ handed_or (out_in terms m) r
cleans_by rules s m terms r same is =
    ap (λ (t : Agreed). handed_or (out_in t m) (cleaned_in refreshes.Plain t (has_octet rules.drops) (refusal rules t.context s.this.peer) true m)) (sym same)
    ∙ ap (handed_or (out_in terms m)) is

-- octets are compared
pub same_octets : (a b passed : List ℕ) (t : Bool) → t ≡ bytes_eq a b → a ≡ passed → (t ≡ true) ↔ (passed ≡ b)
same_octets a b passed t is same =
    let decides = bytes_eq-Decides a b in
    (λ yes. sym same ∙ decides.0 (sym is ∙ yes), λ equal. is ∙ decides.1 (same ∙ equal))

-- the limits that were made are those of the rules
pub with_limits : (rules : Rules) (terms : Agreed) (said : Option Spoken) (l : Limits) (m : Framed) (fresh out : List ℕ) (came : Cleaned) → l ≡ limits_in rules terms.context said
    → IsCleanedIn terms (cleaned_in refreshes.Plain terms (has_octet rules.drops) (refuses_in terms.context l) true m) fresh out came
    → IsCleanedIn terms (cleaned_in refreshes.Plain terms (has_octet rules.drops) (refusal rules terms.context said) true m) fresh out came
with_limits rules terms said l m fresh out came same is =
    subst (λ (x : Limits). IsCleanedIn terms (cleaned_in refreshes.Plain terms (has_octet rules.drops) (refuses_in terms.context x) true m) fresh out came) same is
