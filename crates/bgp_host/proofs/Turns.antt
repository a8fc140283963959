-- Calls of a session, one after another.
use Rattle.bgp_host.proofs.Prelude.{◌≡◌, ℕ, List, [], ◌∷◌, ◌++◌, drop, Option, None, Some, refl, sym, ap, ap₂, subst, ◌∙◌, append_assoc, inl, inr, flat_map}
use Rattle.bgp_host.proofs.Prelude.{flat_map-append, append-nil, ArrayVec, Action, IsPulled, IsSent, Machine, own_octets, Link, Same, Call, Sent, Tick}
use Rattle.bgp_host.proofs.Prelude.{Notice, Grows, sends, sent, all_calls, Records, Answers, Cause, Told, Heard, Gave, Gives, first_calls, first_link, Turn}
use Rattle.bgp_host.proofs.Prelude.{link_after, turn_ticks, turn_notices, IsDue, Goes, cause_if_free, causes_of, Hosted, hosted, RunsFrom, Runs, ArePulls}
use Rattle.bgp_host.proofs.Prelude.{HearsAll, HearsSome, SendsOne, Acts, OneTurn, PullsOn, PullsNone, PullsOnce}
use Rattle.bgp_update.specs.declared.update.Update.{Update}
use Rattle.bgp_host.proofs.Records.{grows_none, grows_both}

-- ---- one call

pulled_settings : (x : Machine) (piece : List ℕ) (n : ℕ) (found : Option (ArrayVec Action)) (y : Machine) → IsPulled x piece n found y → y.settings ≡ x.settings
pulled_settings x piece n None y (inl p) = ap (λ (m : Machine). m.settings) p.same
pulled_settings x piece n None y (inr p) = ap (λ (m : Machine). m.settings) p.fed.1
pulled_settings x piece n (Some actions) y p = ap (λ (m : Machine). m.settings) p.next.leaves

settings_kept : (x : Machine) (cause : Cause) (actions : List Action) (y : Machine) → Gives x cause actions y → y.settings ≡ x.settings
settings_kept x (Told event) actions y gives = ap (λ (m : Machine). m.settings) gives.1
settings_kept x (Heard piece count) actions y gives = pulled_settings x piece count gives.found y gives.pulled
settings_kept x (Gave u octets answer) actions y gives = ap (λ (m : Machine). m.settings) gives.1

abbrev pub at : Machine → Records → Hosted
at session records = record { session = session; records = records }

abbrev pub with_calls : Option (List Call) → Records → Records
with_calls calls r = record { calls = calls; ticks = r.ticks; notices = r.notices }

-- a call of the session, what was sent before its actions, and the actions
pub one_turn : (cause : Cause) (x y : Machine) (actions : List Action) (before : Option (List Call)) (r new : Records) (link : Link)
    → Gives x cause actions y → Grows before r.calls (first_calls cause) → Acts (own_octets y.settings) (first_link cause) actions y.standing.state r new link
    → OneTurn cause (at x (with_calls before r)) (at y new) link
one_turn cause x y actions before r new link gives first acts =
    let d = acts.carried in
    let turn : Turn = record {
      cause = cause;
      deeds = d.deeds;
      calls = first_calls cause ++ all_calls (own_octets x.settings) (first_link cause) d.deeds;
      stood = y.standing.state;
    } in
    record {
      turn = turn;
      is_cause = refl;
      is_turn = record { gives = subst (λ (l : List Action). Gives x cause l y) (sym d.in_order) gives; asked = refl; stands = refl };
      asked = grows_both before r.calls new.calls (first_calls cause) (all_calls (own_octets x.settings) (first_link cause) d.deeds) first
          (subst (λ s. Grows r.calls new.calls (all_calls (own_octets s) (first_link cause) d.deeds)) (settings_kept x cause actions y gives) d.asked);
      ticked = d.ticked;
      noticed = grows_both r.notices acts.between new.notices _ _ d.noticed acts.stood;
      became = d.became;
    }

-- ---- calls one after another

pub runs_none : (link : Link) (h : Hosted) → RunsFrom link h [] link h
runs_none link h = record {
  turns = [];
  goes = (refl, refl);
  are_causes = refl;
  asked = grows_none h.records.calls;
  ticked = grows_none h.records.ticks;
  noticed = grows_none h.records.notices;
}

-- a call, and others after it
pub next_turn : (first : Link) (cause : Cause) (old mid new : Hosted) (link last : Link) (causes : List Cause)
    → IsDue first cause → OneTurn cause old mid link → RunsFrom link mid causes last new → RunsFrom first old (cause_if_free first cause ++ causes) last new
next_turn first cause old mid new link last causes due one runs = record {
  turns = one.turn ∷ runs.turns;
  goes = record {
    is_due = subst (IsDue first) (sym one.is_cause) due;
    between = mid.session;
    is_turn = one.is_turn;
    goes_on = subst (λ (l : Link). Goes l mid.session runs.turns last new.session) one.became runs.goes;
  };
  are_causes = ap₂ (λ (a b : List Cause). a ++ b) (ap (cause_if_free first) one.is_cause) (subst (λ (l : Link). causes_of l runs.turns ≡ causes) one.became runs.are_causes);
  asked = grows_both old.records.calls mid.records.calls new.records.calls one.turn.calls (flat_map (λ t. t.calls) runs.turns) one.asked runs.asked;
  ticked = grows_both old.records.ticks mid.records.ticks new.records.ticks (turn_ticks one.turn) (flat_map turn_ticks runs.turns) one.ticked runs.ticked;
  noticed = grows_both old.records.notices mid.records.notices new.records.notices (turn_notices one.turn) (flat_map turn_notices runs.turns) one.noticed runs.noticed;
}

-- a single call
pub last_turn : (first : Link) (cause : Cause) (old new : Hosted) (link : Link) → IsDue first cause → OneTurn cause old new link
    → RunsFrom first old (cause_if_free first cause ++ []) link new
last_turn first cause old new link due one = next_turn first cause old new new link link [] due one (runs_none link new)

goes_both : (ts us : List Turn) (a b e : Link) (x m y : Machine) → Goes a x ts b m → Goes b m us e y → Goes a x (ts ++ us) e y
goes_both [] us a b e x m y first second = subst (λ (l : Link). Goes l x us e y) first.0 (subst (λ (z : Machine). Goes b z us e y) first.1 second)
goes_both (t ∷ ts) us a b e x m y first second = record {
  is_due = first.is_due;
  between = first.between;
  is_turn = first.is_turn;
  goes_on = goes_both ts us (link_after t) b e first.between m y first.goes_on second;
}

causes_both : (ts us : List Turn) (a b : Link) (x m : Machine) → Goes a x ts b m → causes_of a (ts ++ us) ≡ causes_of a ts ++ causes_of b us
causes_both [] us a b x m first = ap (λ (l : Link). causes_of l us) (sym first.0)
causes_both (t ∷ ts) us a b x m first =
    ap (λ (l : List Cause). cause_if_free a t.cause ++ l) (causes_both ts us (link_after t) b first.between m first.goes_on)
    ∙ sym (append_assoc (cause_if_free a t.cause) (causes_of (link_after t) ts) (causes_of b us))

grows_flat : {A : Type 0} (f : Turn → List A) (old mid new : Option (List A)) (ts us : List Turn)
    → Grows old mid (flat_map f ts) → Grows mid new (flat_map f us) → Grows old new (flat_map f (ts ++ us))
grows_flat f old mid new ts us first second =
    subst (Grows old new) (sym (flat_map-append f ts us)) (grows_both old mid new (flat_map f ts) (flat_map f us) first second)

-- calls after calls
pub runs_both : (a b e : Link) (old mid new : Hosted) (causes later : List Cause) → RunsFrom a old causes b mid → RunsFrom b mid later e new
    → RunsFrom a old (causes ++ later) e new
runs_both a b e old mid new causes later first second = record {
  turns = first.turns ++ second.turns;
  goes = goes_both first.turns second.turns a b e old.session mid.session new.session first.goes second.goes;
  are_causes = causes_both first.turns second.turns a b old.session mid.session first.goes ∙ ap₂ (λ (l m : List Cause). l ++ m) first.are_causes second.are_causes;
  asked = grows_flat (λ (t : Turn). t.calls) old.records.calls mid.records.calls new.records.calls first.turns second.turns first.asked second.asked;
  ticked = grows_flat turn_ticks old.records.ticks mid.records.ticks new.records.ticks first.turns second.turns first.ticked second.ticked;
  noticed = grows_flat turn_notices old.records.notices mid.records.notices new.records.notices first.turns second.turns first.noticed second.noticed;
}

-- no call
pub runs_same : (x y : Machine) (calls : Option (List Call)) (ticks : Option (List Tick)) (notices : Option (List Notice)) → y ≡ x
    → Runs (hosted x calls ticks notices) [] (hosted y calls ticks notices)
runs_same x y calls ticks notices same =
    subst (λ (z : Machine). Runs (hosted x calls ticks notices) [] (hosted z calls ticks notices)) (sym same) (runs_none Same (hosted x calls ticks notices))

-- an UPDATE was sent
pub sent_one : (x : Machine) (u : Update) (actions : List Action) (empty octets put : List ℕ) (calls mid : Option (List Call)) (ticks : Option (List Tick))
    (notices : Option (List Notice)) (r1 : Records) (first link : Link) (m : Machine) (new : Hosted)
    → empty ≡ [] → put ≡ octets → IsSent x u actions empty octets → Answers (sends Same put) (sent Same) calls mid first
    → Acts (own_octets x.settings) first actions x.standing.state (record { calls = mid; ticks = ticks; notices = notices }) r1 link
    → m ≡ x → RunsFrom link (at m r1) [] Same new → SendsOne (hosted x calls ticks notices) u new
sent_one x u actions empty octets put calls mid ticks notices r1 first link m new none same is_sent asks acts stays follows =
    let r0 : Records = record { calls = mid; ticks = ticks; notices = notices } in
    record {
      octets = octets;
      answer = asks.answer;
      runs = next_turn Same (Gave u octets asks.answer) (hosted x calls ticks notices) (at x r1) new link Same [] tt
          (one_turn (Gave u octets asks.answer) x x actions calls r0 r1 link (subst (λ (e : List ℕ). IsSent x u actions e octets) none is_sent, refl)
          (subst (λ (o : List ℕ). Grows calls mid (Sent o asks.answer ∷ [])) same asks.asked)
          (subst (λ (f : Link). Acts (own_octets x.settings) f actions x.standing.state r0 r1 link) asks.became acts))
          (subst (λ (z : Machine). RunsFrom link (at z r1) [] Same new) stays follows);
    }

-- one more pull
pub pulls_next : (piece : List ℕ) (causes : List Cause) (rest : List ℕ) (n : ℕ) → ArePulls piece causes rest → ArePulls piece (causes ++ Heard rest n ∷ []) (drop n rest)
pulls_next piece [] rest n is = (is, ap (λ (l : List ℕ). drop n l) is)
pulls_next piece (Heard whole count ∷ causes) rest n is = (is.0, pulls_next (drop count piece) causes rest n is.1)
pulls_next piece (Told event ∷ causes) rest n is = absurd is
pulls_next piece (Gave u octets answer ∷ causes) rest n is = absurd is

-- pulls so far, and one more with an outcome
pub heard_next : (old mid new : Hosted) (piece rest : List ℕ) (causes : List Cause) (found : Option ℕ) (n : ℕ) (later : List ℕ)
    → Runs old causes mid → ArePulls piece causes rest → PullsOnce mid rest new found → found ≡ Some n → later ≡ drop n rest
    → (all : List Cause) × Runs old all new × ArePulls piece all later
heard_next old mid new piece rest causes found n later runs pulls once is back =
    let on : PullsOn mid rest n new = subst (PullsOnce mid rest new) is once in (
      causes ++ Heard rest n ∷ [],
      runs_both Same Same Same old mid new causes (Heard rest n ∷ []) runs on.runs,
      subst (ArePulls piece (causes ++ Heard rest n ∷ [])) (sym back) (pulls_next piece causes rest n pulls),
    )

-- and one without
pub heard_all : (old mid new : Hosted) (piece rest : List ℕ) (causes : List Cause) (found : Option ℕ)
    → Runs old causes mid → ArePulls piece causes rest → PullsOnce mid rest new found → found ≡ None → HearsAll old piece new
heard_all old mid new piece rest causes found runs pulls once is =
    let ends : PullsNone mid rest new = subst (PullsOnce mid rest new) is once in
    record {
      causes = causes ++ Heard rest 0 ∷ [];
      runs = runs_both Same Same Same old mid new causes (Heard rest 0 ∷ []) runs ends.runs;
      rest = rest;
      pulls = pulls_next piece causes rest 0 pulls;
      all = ends.all;
    }

-- where a pull fails, the octets received so far remain received
pub heard_some : (old mid new : Hosted) (piece rest : List ℕ) (causes : List Cause) → Runs old causes mid → ArePulls piece causes rest → Runs mid [] new → HearsSome old piece new
heard_some old mid new piece rest causes runs pulls ends = record {
  causes = causes ++ [];
  runs = runs_both Same Same Same old mid new causes [] runs ends;
  rest = rest;
  pulls = subst (λ (l : List Cause). ArePulls piece l rest) (sym (append-nil causes)) pulls;
}
