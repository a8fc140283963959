-- An UPDATE that is sent keeps the invariant of two ends.
use Rattle.bgp_session.proofs.Prelude.{◌≡◌, ℕ, Bool, true, false, List, [], ◌∷◌, ◌++◌, Option, None, Some, Ok, refl, ap, subst, ◌∙◌, Context, agreement}
use Rattle.bgp_session.proofs.Prelude.{Settings, own_of, SendFault, State, Timers, why_unsent, is_told_too_long, told_octets, unless_invalid, refusal_in}
use Rattle.bgp_session.proofs.Prelude.{refusal_of, Update, HasUpdateRanges, End, told_by, Note, Pair, pair, sent}
use Rattle.bgp_update.specs.declared.invalid.Invalid.{Invalid}
use Rattle.bgp_session.proofs.Facts.{update_spelled}
use Rattle.bgp_session.proofs.Sayings.{SaidUpdate, IsTold, Stage, next, EndsAt, Runs}
use Rattle.bgp_session.proofs.Ways.{MaySay, sender_says}
use Rattle.bgp_session.proofs.Ends.{IsSound, in_state}

-- ---- what isn't refused

pub record IsSendable (ctx : Context) (u : Update) : Type 0 where
  pub valid : why_unsent ctx u ≡ None
  pub short : is_told_too_long ctx u ≡ false

sendable_by : (why : Option Invalid) (long : Bool) → unless_invalid why long ≡ None → (why ≡ None) × (long ≡ false)
sendable_by (Some why) long is = absurd (let not : Some (SendFault.NotValid why) ≡ None = is in cc)
sendable_by None true is = absurd (let not : Some SendFault.TooLong ≡ None = is in cc)
sendable_by None false is = (refl, refl)

sendable : (ctx : Context) (u : Update) → refusal_in (Some ctx) u ≡ None → IsSendable ctx u
sendable ctx u is = let both = sendable_by (why_unsent ctx u) (is_told_too_long ctx u) is in record { valid = both.0; short = both.1 }

-- it is sent in the context that both agreed on
says : (ctx : Context) (u : Update) (last : Stage) → EndsAt State.Established last → MaySay State.Established State.Established (SaidUpdate ctx u) last
says ctx u last is = record { behind = Runs; is_next = ap (λ (st : Stage). next st (SaidUpdate ctx u)) is; ends = refl }

refused : {P : Type 0} → Some SendFault.NotEstablished ≡ None → P
refused is = absurd (let not : Some SendFault.NotEstablished ≡ None = is in cc)

module _ (wide : Bool) (mine theirs : Settings) (allowed : Note → Type 0) (width : (c : Context) → agreement mine (own_of theirs) ≡ Ok c → c.as4 ≡ wide)
    (e other : End) (notes : List Note) (running : Timers) (hand : List ℕ) (u : Update) (ranges : HasUpdateRanges u) where
  abbrev Sound : Pair → Type 0
  Sound p = IsSound wide mine theirs allowed hand p

  abbrev before : State → Pair
  before st = pair (in_state e st running) other notes

  established_sends : Sound (before State.Established) → refusal_in e.session.standing.context u ≡ None → Sound (sent (before State.Established) u)
  established_sends was none =
      let agrees = was.this.context in
      let c : Context = agrees.agreed in
      let can = sendable c u (subst (λ (o : Option Context). refusal_in o u ≡ None) agrees.is none) in
      let told : IsTold wide mine theirs c u = record { agreed = agrees.both; width = width c agrees.both; sendable = can.valid; short = can.short; ranges = ranges } in
      let spelled : told_by e.session.standing.context u ≡ told_octets c u = ap (λ (o : Option Context). told_by o u) agrees.is in
      record {
        this = record { settings = was.this.settings; context = was.this.context; left = was.this.left; none_gone = was.this.none_gone };
        other = record { settings = was.other.settings; context = was.other.context; left = was.other.left; none_gone = was.other.none_gone };
        to_this = was.to_this;
        to_other =
            sender_says wide mine theirs State.Established State.Established (SaidUpdate c u) (says c u) told (told_by e.session.standing.context u) (spelled ∙ update_spelled mine c u)
            e.sent (e.sent ++ u ∷ []) refl other.got other.session.standing.state other.session.held [] other.flight other.left was.other.left was.to_other;
        notes = was.notes;
      }

  sends_at : (st : State) → Sound (before st) → refusal_of (in_state e st running).session u ≡ None → Sound (sent (before st) u)
  sends_at State.Established was none = established_sends was none
  sends_at State.Idle was none = refused none
  sends_at State.Connect was none = refused none
  sends_at State.Active was none = refused none
  sends_at State.OpenSent was none = refused none
  sends_at State.OpenConfirm was none = refused none

pub sends_keep : (wide : Bool) (mine theirs : Settings) (allowed : Note → Type 0) → ((c : Context) → agreement mine (own_of theirs) ≡ Ok c → c.as4 ≡ wide) → (hand : List ℕ) (p : Pair) (u : Update)
    → HasUpdateRanges u → IsSound wide mine theirs allowed hand p → refusal_of p.this.session u ≡ None → IsSound wide mine theirs allowed hand (sent p u)
sends_keep wide mine theirs allowed width hand p u ranges was none =
    sends_at wide mine theirs allowed width p.this p.other p.notes p.this.session.standing.running hand u ranges p.this.session.standing.state was none
