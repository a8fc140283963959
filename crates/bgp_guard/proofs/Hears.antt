-- An octet of a side keeps the invariant of both directions.
use Rattle.bgp_guard.proofs.Prelude.{◌≡◌, ℕ, zero, suc, ◌+◌, ◌<◌, Bool, true, false, cond, List, [], ◌∷◌, ◌++◌, length, Option, Some, None, option_map}
use Rattle.bgp_guard.proofs.Prelude.{Result, Ok, Err, refl, sym, ap, subst, ◌∙◌, arith, inl, inr, and_parts, cases_lt, not-false, ◌&&◌, not, is_some}
use Rattle.bgp_guard.proofs.Prelude.{true≢false, append-nil, length-append, AreOctets, has_octet, HeadFault, Kind, WideKind, IsFrameIn, WaitsIn, IsHeldIn, head_notification}
use Rattle.bgp_guard.proofs.Prelude.{content_of_in, Agreed, Framed, Notification, Open, reading_of, Spoken, spoken_by, canonical_in, flat_map, Message, WideMessage, base, out_in, CleanFault, cleaned_in, refusal}
use Rattle.bgp_guard.proofs.Prelude.{content_of-message, none_waits, Rules, Stage, Answers, answered, refused_by, known, notice, reset_by, unexpected, Half, Sight, listens_in}
use Rattle.bgp_guard.proofs.Prelude.{agreed, answers_to, terms_in, done, handed_on, handed_or, heard, heard_as, holding, octet_by, placed, said_as}
use Rattle.bgp_guard.proofs.Prelude.{IsHandedOver, Seen, Trail, came_behind, octet_seen, both_open, misplaced, subcode_of}
use Rattle.bgp_wire.proofs.OctetLemmas.{AreOctets-append}
use Rattle.bgp_frame.specs.declared.kind.WideKind.TheVariants as wide
use Rattle.bgp_terms.specs.declared.refreshes.Refreshes.TheVariants as refreshes
use Rattle.bgp_frame.proofs.FrameLemmas.{wanted-append, wanted-bounds}
use Rattle.bgp_guard.proofs.Lanes.{Alive, alive_ends, alive_held, alive_on, alive_open, kept_push, notified, open_same, opened_push, place_same, refit}
use Rattle.bgp_guard.proofs.Passed.{open_in}
use Rattle.bgp_guard.specs.Guard.{types}
use Rattle.bgp_guard.proofs.Types.{types-are}

-- ---- what is held

-- one more octet can be held
pub held_more : (held : List ℕ) (octet : ℕ) → IsHeldIn types held → WaitsIn types held → octet < 256 → IsHeldIn types (held ++ octet ∷ [])
held_more held octet is waits small =
    let all : length (held ++ octet ∷ []) ≡ length held + 1 = length-append held (octet ∷ []) in
    record {
      octets = AreOctets-append held (octet ∷ []) is.octets (one small);
      within =
          elim (cases_lt (length held) 19) [
            | inl short ↦ let bounds = wanted-bounds types types-are (held ++ octet ∷ []) in omega (arith, bounds.0, all, short)
            | inr long ↦ let e = wanted-append types types-are held (octet ∷ []) long in omega (arith, all, e, waits)
          ];
    }
  where
    one : octet < 256 → AreOctets (octet ∷ [])
    one small zero = small
    one small (suc i) = omega arith

-- ---- both directions

abbrev pub Lane : Rules → Stage → Bool → List ℕ → Option Spoken → Option Spoken → List ℕ → List ℕ → List ℕ → Type 0
Lane rules (Stage.Runs n) silent held kept others came given way = Alive rules silent held kept others came given way
Lane rules (Stage.Ends n) silent held kept others came given way = IsHandedOver rules silent (agreed kept others) kept came given way

pub record Goes (rules theirs : Rules) (silent others : Bool) (s : Seen) : Type 0 where
  pub this : Lane rules s.sight.stage silent s.sight.this.held s.sight.this.peer s.sight.other.peer s.this.came s.other.given s.sight.other.way
  pub other : Lane theirs s.sight.stage others s.sight.other.held s.sight.other.peer s.sight.this.peer s.other.came s.this.given s.sight.this.way

-- ---- an octet

-- a message that is in place isn't out of place
in_place : (b : Bool) (subcode : ℕ) → (let found : Option ℕ = cond b (Some subcode) None in found ≡ None) → b ≡ false
in_place true subcode e = absurd cc
in_place false subcode e = refl

no_peer : (p : Option Spoken) → is_some p ≡ false → p ≡ None
no_peer None e = refl
no_peer (Some said) e = absurd (true≢false e)

module _ (rules theirs : Rules) (silent others : Bool) (n : ℕ) (this other : Half) (t o : Trail) (octet : ℕ)
    (a : Alive rules silent this.held this.peer other.peer t.came o.given other.way) (b : Alive theirs others other.held other.peer this.peer o.came t.given this.way) where
  abbrev sight : Sight
  sight = record { stage = Stage.Runs n; this = this; other = other }

  -- nothing is held
  abbrev free : Sight
  free = holding sight []

  abbrev grown : Trail
  grown = record t { came = t.came ++ octet ∷ [] }

  abbrev seen : Sight → Seen
  seen s = record { sight = s; this = grown; other = o }

  answered_goes : (answers : Answers) → Goes rules theirs silent others (seen (answered free answers))
  answered_goes answers = record {
    this =
        alive_ends rules silent this.held this.peer other.peer t.came o.given other.way a (octet ∷ []) (t.came ++ octet ∷ []) (other.way ++ notice answers.other) [] (Some answers.other) refl
        (append-nil (other.way ++ notice answers.other));
    other =
        alive_ends theirs others other.held other.peer this.peer o.came t.given this.way b [] o.came (this.way ++ notice answers.this) [] (Some answers.this) (sym (append-nil o.came))
        (append-nil (this.way ++ notice answers.this));
  }

  module _ (m : List WideMessage) where
    abbrev ctx : Agreed
    ctx = terms_in free

    open_goes : (body : List ℕ) (p : Open) → IsFrameIn types (record { kind = wide.Base Kind.Open; body = body }) (this.held ++ octet ∷ []) → misplaced free (wide.Base Kind.Open) ≡ None
        → cleaned_in refreshes.Plain ctx (has_octet rules.drops) (refusal rules ctx.context this.peer) true (record { kind = wide.Base Kind.Open; body = body }) ≡ Ok m → m ≡ base (Message.Open p) ∷ [] → Goes rules theirs silent others (seen (handed_on silent free (wide.Base Kind.Open) m))
    open_goes body p f placed is same =
        let none : this.peer ≡ None = no_peer this.peer (in_place (is_some this.peer) (subcode_of free) placed) in
        let handed : (c : Agreed) → cleaned_in refreshes.Plain c (has_octet rules.drops) (refusal rules c.context (Some (spoken_by p))) true (record { kind = wide.Base Kind.Open; body = body }) ≡ Ok (base (Message.Open p) ∷ []) =
        λ c. open_same (has_octet rules.drops) (refusal rules c.context (Some (spoken_by p))) (refusal rules ctx.context this.peer) true body c ctx ∙ is ∙ ap (λ (x : List WideMessage). Ok x) same in
        let fresh : Alive rules silent this.held None other.peer t.came o.given other.way = subst (λ (k : Option Spoken). Alive rules silent this.held k other.peer t.came o.given other.way) none a in
        subst (λ (x : List WideMessage). Goes rules theirs silent others (seen (handed_on silent free (wide.Base Kind.Open) x))) (sym same) (record {
          this = alive_open rules silent this.held other.peer t.came o.given other.way fresh octet body p f handed ctx;
          other = refit theirs others other.held other.peer this.peer (Some (spoken_by p)) o.came t.given this.way (ap is_some none) b;
        })

    -- after both OPENs
    on_goes : (k : WideKind) (body : List ℕ) → (k ≡ wide.Base Kind.Open → ⊥) → (k ≡ wide.Base Kind.Notification → ⊥) → IsFrameIn types (record { kind = k; body = body }) (this.held ++ octet ∷ []) → both_open free ≡ true
        → cleaned_in refreshes.Plain ctx (has_octet rules.drops) (refusal rules ctx.context this.peer) true (record { kind = k; body = body }) ≡ Ok m
        → Alive rules silent [] this.peer other.peer (t.came ++ octet ∷ []) o.given (other.way ++ flat_map (canonical_in ctx) (said_as silent k m))
    on_goes k body no_open no_notice f both is =
        alive_on rules silent this.held this.peer other.peer t.came o.given other.way a octet (record { kind = k; body = body }) m f both
        (opened_push rules silent a.messages (record { kind = k; body = body }) this.peer (and_parts (is_some this.peer) (is_some other.peer) both).0 a.opened)
        no_notice
        (λ at. place_same ctx (has_octet rules.drops) (refusal rules ctx.context this.peer) at k body no_open ∙ is)

    update_goes : (body : List ℕ) → IsFrameIn types (record { kind = wide.Base Kind.Update; body = body }) (this.held ++ octet ∷ []) → misplaced free (wide.Base Kind.Update) ≡ None
        → cleaned_in refreshes.Plain ctx (has_octet rules.drops) (refusal rules ctx.context this.peer) true (record { kind = wide.Base Kind.Update; body = body }) ≡ Ok m → Goes rules theirs silent others (seen (handed_on silent free (wide.Base Kind.Update) m))
    update_goes body f placed is =
        let both : (both_open free && this.ready) ≡ true = not-false (both_open free && this.ready) (in_place (not (both_open free && this.ready)) (subcode_of free) placed) in
        record { this = on_goes (wide.Base Kind.Update) body (λ e. absurd cc) (λ e. absurd cc) f (and_parts (both_open free) this.ready both).0 is; other = b }

    refresh_goes : (body : List ℕ) → IsFrameIn types (record { kind = wide.Refresh; body = body }) (this.held ++ octet ∷ []) → misplaced free wide.Refresh ≡ None
        → cleaned_in refreshes.Plain ctx (has_octet rules.drops) (refusal rules ctx.context this.peer) true (record { kind = wide.Refresh; body = body }) ≡ Ok m → Goes rules theirs silent others (seen (handed_on silent free wide.Refresh m))
    refresh_goes body f placed is =
        let both : (both_open free && this.ready) ≡ true = not-false (both_open free && this.ready) (in_place (not (both_open free && this.ready)) (subcode_of free) placed) in
        record { this = on_goes wide.Refresh body (λ e. absurd cc) (λ e. absurd cc) f (and_parts (both_open free) this.ready both).0 is; other = b }

    keepalive_goes : (body : List ℕ) → IsFrameIn types (record { kind = wide.Base Kind.Keepalive; body = body }) (this.held ++ octet ∷ []) → misplaced free (wide.Base Kind.Keepalive) ≡ None
        → cleaned_in refreshes.Plain ctx (has_octet rules.drops) (refusal rules ctx.context this.peer) true (record { kind = wide.Base Kind.Keepalive; body = body }) ≡ Ok m → Goes rules theirs silent others (seen (handed_on silent free (wide.Base Kind.Keepalive) m))
    keepalive_goes body f placed is =
        let both : both_open free ≡ true = not-false (both_open free) (in_place (not (both_open free)) (subcode_of free) placed) in
        record { this = on_goes (wide.Base Kind.Keepalive) body (λ e. absurd cc) (λ e. absurd cc) f both is; other = b }

    notification_goes : (body : List ℕ) → IsFrameIn types (record { kind = wide.Base Kind.Notification; body = body }) (this.held ++ octet ∷ [])
        → cleaned_in refreshes.Plain ctx (has_octet rules.drops) (refusal rules ctx.context this.peer) true (record { kind = wide.Base Kind.Notification; body = body }) ≡ Ok m → Goes rules theirs silent others (seen (handed_on silent free (wide.Base Kind.Notification) m))
    notification_goes body f is = record {
      this =
          notified rules silent this.held this.peer other.peer t.came o.given other.way a octet (record { kind = wide.Base Kind.Notification; body = body }) m f
          (kept_push rules silent ctx a.messages (record { kind = wide.Base Kind.Notification; body = body }) this.peer a.opened)
          (λ at. place_same ctx (has_octet rules.drops) (refusal rules ctx.context this.peer) at (wide.Base Kind.Notification) body (λ e. absurd cc) ∙ is);
      other =
          alive_ends theirs others other.held other.peer this.peer o.came t.given this.way b [] o.came this.way [] None (sym (append-nil o.came)) (append-nil this.way ∙ sym (append-nil this.way));
    }

    by_kind : (k : WideKind) (body : List ℕ) → IsFrameIn types (record { kind = k; body = body }) (this.held ++ octet ∷ []) → misplaced free k ≡ None
        → cleaned_in refreshes.Plain ctx (has_octet rules.drops) (refusal rules ctx.context this.peer) true (record { kind = k; body = body }) ≡ Ok m → Goes rules theirs silent others (seen (handed_on silent free k m))
    by_kind (wide.Base Kind.Open) body f placed is =
        let found = open_in (has_octet rules.drops) (refusal rules ctx.context this.peer) m (reading_of body) is in
        open_goes body found.0 f placed is found.1
    by_kind (wide.Base Kind.Update) body f placed is = update_goes body f placed is
    by_kind (wide.Base Kind.Notification) body f placed is = notification_goes body f is
    by_kind (wide.Base Kind.Keepalive) body f placed is = keepalive_goes body f placed is
    by_kind wide.Refresh body f placed is = refresh_goes body f placed is

  by_cleaned : (m : Framed) → IsFrameIn types m (this.held ++ octet ∷ []) → misplaced free m.kind ≡ None → (r : Result (List WideMessage) CleanFault)
      → cleaned_in refreshes.Plain (terms_in free) (has_octet rules.drops) (refusal rules (terms_in free).context this.peer) true m ≡ r → Goes rules theirs silent others (seen (done silent free m.kind (handed_or (out_in (terms_in free) m) r)))
  by_cleaned m f placed (Ok n) is = by_kind n m.kind m.body f placed is
  by_cleaned m f placed (Err fault) is = answered_goes (answers_to (out_in (terms_in free) m))

  by_known : (m : Framed) → IsFrameIn types m (this.held ++ octet ∷ []) → misplaced free m.kind ≡ None → (why : Option Notification)
      → Goes rules theirs silent others (seen (done silent free m.kind (known rules free m why)))
  by_known m f placed (Some n) = answered_goes (reset_by n)
  by_known m f placed None = by_cleaned m f placed (cleaned_in refreshes.Plain (terms_in free) (has_octet rules.drops) (refusal rules (terms_in free).context this.peer) true m) refl

  by_place : (m : Framed) → IsFrameIn types m (this.held ++ octet ∷ []) → (p : Option ℕ) → misplaced free m.kind ≡ p
      → Goes rules theirs silent others (seen (done silent free m.kind (placed rules free m p)))
  by_place m f None e = by_known m f e (refused_by free m.kind m.body)
  by_place m f (Some subcode) e = answered_goes (reset_by (unexpected subcode m.kind))

  by_content : octet < 256 → (c : Option (Result Framed HeadFault)) → content_of_in types (this.held ++ octet ∷ []) ≡ c
      → Goes rules theirs silent others (seen (heard_as rules silent (holding sight (this.held ++ octet ∷ [])) c))
  by_content small None e = record {
    this = alive_held rules silent octet this.held this.peer other.peer t.came o.given other.way a (held_more this.held octet a.can_hold a.waits small) (none_waits types types-are (λ c. c) (this.held ++ octet ∷ []) (ap (option_map (λ c. c)) e));
    other = b;
  }
  by_content small (Some (Ok m)) e =
      by_place m (content_of-message types types-are m (this.held ++ octet ∷ []) (held_more this.held octet a.can_hold a.waits small) e) (misplaced free m.kind) refl
  by_content small (Some (Err fault)) e = answered_goes (reset_by (head_notification fault))

  pub heard_goes : octet < 256 → Goes rules theirs silent others (seen (heard rules silent (holding sight (this.held ++ octet ∷ []))))
  heard_goes small = by_content small (content_of_in types (this.held ++ octet ∷ [])) refl

-- ---- whether it is read or not

abbrev pub octet_by_seen : Bool → Rules → Bool → ℕ → Seen → Seen
octet_by_seen b rules silent octet s = record {
  sight = octet_by b rules silent s.sight octet;
  this = record s.this { came = came_behind b s.this.came octet };
  other = s.other;
}

read_by : (rules theirs : Rules) (silent others : Bool) (octet : ℕ) (st : Stage) (this other : Half) (t o : Trail) → octet < 256
    → (b : Bool) → listens_in (record { stage = st; this = this; other = other }) ≡ b
    → Goes rules theirs silent others (record { sight = record { stage = st; this = this; other = other }; this = t; other = o })
    → Goes rules theirs silent others (octet_by_seen b rules silent octet (record { sight = record { stage = st; this = this; other = other }; this = t; other = o }))
read_by rules theirs silent others octet st this other t o small false e goes = goes
read_by rules theirs silent others octet (Stage.Runs n) this other t o small true e goes = heard_goes rules theirs silent others n this other t o octet goes.this goes.other small
read_by rules theirs silent others octet (Stage.Ends n) this other t o small true e goes = absurd (true≢false (sym e))

pub octet_goes : (rules theirs : Rules) (silent others : Bool) (octet : ℕ) (s : Seen) → octet < 256 → Goes rules theirs silent others s → Goes rules theirs silent others (octet_seen rules silent octet s)
octet_goes rules theirs silent others octet s small goes =
    read_by rules theirs silent others octet s.sight.stage s.sight.this s.sight.other s.this s.other small (listens_in s.sight) refl goes
