-- Both sessions have nothing left to do after each move.
use Rattle.bgp_session.proofs.Prelude.{◌≡◌, ℕ, List, [], ◌∷◌, Option, None, Some, Result, Ok, Err, refl, sym, ap, ap₂, subst, ◌∙◌, IfOk, OnOk, Action, Event}
use Rattle.bgp_session.proofs.Prelude.{SendFault, IsAtRest, by_octets, after_event, happens, event_rests, Update, Side, A, B, End, with_session, before_event}
use Rattle.bgp_session.proofs.Prelude.{Pair, pair, acted, all_acted, told, fed, Rests, Sends, IsTried, World, with_pair}
use Rattle.bgp_session.proofs.Acts.{all_keeps}

module _ (side : Side) where
  -- the other session is unchanged
  acted_spares : (p : Pair) (a : Action) → (acted side p a).other.session ≡ p.other.session
  acted_spares p Action.Connect = refl
  acted_spares p Action.Close = refl
  acted_spares p Action.SendOpen = refl
  acted_spares p Action.SendKeepalive = refl
  acted_spares p (Action.SendNotification why) = refl
  acted_spares p (Action.Arm timer seconds) = refl
  acted_spares p (Action.Disarm timer) = refl
  acted_spares p (Action.Announce u info) = refl
  acted_spares p (Action.Withdraw routes) = refl
  acted_spares p Action.Flush = refl

  pub all_spare : (p : Pair) (actions : List Action) → (all_acted side p actions).other.session ≡ p.other.session
  all_spare p [] = refl
  all_spare p (a ∷ later) = all_spare (acted side p a) later ∙ acted_spares p a

  told_rests : (p : Pair) (event : Event) → IsAtRest p.this.session → IsAtRest (told side p event).this.session
  told_rests p event rest =
      subst IsAtRest
      (sym (all_keeps side (pair (with_session (before_event p.this event) (after_event p.this.session event)) p.other p.notes) (happens p.this.session.standing event).actions))
      (event_rests p.this.session event rest)

  told_spares : (p : Pair) (event : Event) → (told side p event).other.session ≡ p.other.session
  told_spares p event = all_spare (pair (with_session (before_event p.this event) (after_event p.this.session event)) p.other p.notes) (happens p.this.session.standing event).actions

  pub fed_spares : (p : Pair) (octets : List ℕ) → (fed side p octets).other.session ≡ p.other.session
  fed_spares p octets = all_spare (pair (with_session p.this (by_octets p.this.session octets).session) p.other p.notes) (by_octets p.this.session octets).actions

-- ---- what the code has of it

pub on_ok : {T E P Q : Type 0} → (P → Q) → (r : Result T E) → OnOk r P → OnOk r Q
on_ok f (Ok v) p = f p
on_ok f (Err e) p = p

module _ (side : Side) (p q : Pair) where
  abbrev BothRest : Pair → Type 0
  BothRest r = IsAtRest r.this.session × IsAtRest r.other.session

  pub told_both : (event : Event) → told side p event ≡ q → BothRest p → BothRest q
  told_both event is rests = subst BothRest is (told_rests side p event rests.0, subst IsAtRest (sym (told_spares side p event)) rests.1)

  pub fed_both : (octets : List ℕ) → fed side p octets ≡ q → IsAtRest q.this.session → IsAtRest p.other.session → IsAtRest q.other.session
  fed_both octets is this other = subst IsAtRest (sym (fed_spares side p octets) ∙ ap (λ (r : Pair). r.other.session) is) other

pub on_ok_both : {T E P Q R : Type 0} → (P → Q → R) → (r : Result T E) → OnOk r P → OnOk r Q → OnOk r R
on_ok_both f (Ok v) p q = f p q
on_ok_both f (Err e) p q = p

if_ok : {T E : Type 0} {P Q : T → Type 0} → ((v : T) → P v → Q v) → (r : Result T E) → IfOk r P → IfOk r Q
if_ok f (Ok v) p = f v p
if_ok f (Err e) p = p

if_on : {T E : Type 0} {P : T → Type 0} {Q : Type 0} → ((v : T) → P v → Q) → (r : Result T E) → IfOk r P → OnOk r Q
if_on f (Ok v) p = f v p
if_on f (Err e) p = p

-- ---- attempts to send

module _ (this other x y : End) (u : Update) where
  sends_rest : (found : Option SendFault) → Sends this other u x y found → IsAtRest this.session → IsAtRest other.session → IsAtRest x.session × IsAtRest y.session
  sends_rest None s a b = (
    subst IsAtRest (ap (λ (p : Pair). p.this.session) (s.1 [])) a,
    subst IsAtRest (ap (λ (p : Pair). p.other.session) (s.1 [])) b,
  )
  sends_rest (Some fault) s a b = (subst (λ (e : End). IsAtRest e.session) (sym s.1) a, subst (λ (e : End). IsAtRest e.session) (sym s.2) b)

module _ (w : World) (u : Update) (x y : End) where
  abbrev pub made_a : World
  made_a = record { a = x; b = y; notes = w.notes; over = w.over; begun = w.begun; refused = w.refused }

  abbrev pub made_b : World
  made_b = record { a = y; b = x; notes = w.notes; over = w.over; begun = w.begun; refused = w.refused }

  tried_a : (found : Option SendFault) → Sends w.a w.b u x y found → IsTried A u w found made_a
  tried_a None s = (s.0, ap (with_pair A w) (sym (s.1 w.notes)))
  tried_a (Some fault) s = (s.0, ap₂ (λ (a b : End). record { a = a; b = b; notes = w.notes; over = w.over; begun = w.begun; refused = w.refused }) s.1 s.2)

  tried_b : (found : Option SendFault) → Sends w.b w.a u x y found → IsTried B u w found made_b
  tried_b None s = (s.0, ap (with_pair B w) (sym (s.1 w.notes)))
  tried_b (Some fault) s = (s.0, ap₂ (λ (a b : End). record { a = b; b = a; notes = w.notes; over = w.over; begun = w.begun; refused = w.refused }) s.1 s.2)

  module _ {E : Type 0} (side : Side) (r : Result (Option SendFault) E) where
    pub tries_a : side ≡ A → IfOk r (Sends w.a w.b u x y) → IfOk r (λ found. IsTried side u w found made_a)
    tries_a is s = subst (λ (z : Side). IfOk r (λ found. IsTried z u w found made_a)) (sym is) (if_ok tried_a r s)

    pub tries_b : side ≡ B → IfOk r (Sends w.b w.a u x y) → IfOk r (λ found. IsTried side u w found made_b)
    tries_b is s = subst (λ (z : Side). IfOk r (λ found. IsTried z u w found made_b)) (sym is) (if_ok tried_b r s)

    pub tries_rest_a : Rests w → IfOk r (Sends w.a w.b u x y) → OnOk r (Rests made_a)
    tries_rest_a rests s = if_on (λ found f. sends_rest w.a w.b x y u found f rests.0 rests.1) r s

    pub tries_rest_b : Rests w → IfOk r (Sends w.b w.a u x y) → OnOk r (Rests made_b)
    tries_rest_b rests s = if_on (λ found f. let both = sends_rest w.b w.a x y u found f rests.1 rests.0 in (both.1, both.0)) r s
