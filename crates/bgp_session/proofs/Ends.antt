-- Two ends of a connection: the invariant of both, and how one of them leaves.
use Rattle.bgp_session.proofs.Prelude.{◌≡◌, ℕ, Bool, true, false, not, List, [], ◌∷◌, ◌++◌, Option, None, Some, Ok, refl, sym, ap, subst, ◌∙◌, AllByRecursion}
use Rattle.bgp_session.proofs.Prelude.{append-nil, all_push, Notification, Context, agreement, Settings, own_of, Action, State, Timers, listens, only_if}
use Rattle.bgp_session.proofs.Prelude.{disarmed, flushed, PathInfo, Update, Side, End, with_session, away, towards, Note, Pair, pair, notification_octets}
use Rattle.bgp_session.proofs.Prelude.{note_of, acted, all_acted}
use Rattle.bgp_session.proofs.Facts.{notification_spelled}
use Rattle.bgp_session.proofs.Sayings.{SaidNotification, Stage, next, EndsAt, Ended}
use Rattle.bgp_session.proofs.Ways.{IsDeaf, Goes, front_of, sender_goes, sender_says}

-- ---- the invariant

-- the context is what was agreed on with the other's OPEN
pub record IsAgreed (mine theirs : Settings) (ctx : Option Context) : Type 0 where
  pub agreed : Context
  pub is : ctx ≡ Some agreed
  pub both : agreement mine (own_of theirs) ≡ Ok agreed

abbrev pub HasContext : Settings → Settings → State → Option Context → Type 0
HasContext mine theirs State.OpenConfirm ctx = IsAgreed mine theirs ctx
HasContext mine theirs State.Established ctx = IsAgreed mine theirs ctx
HasContext mine theirs _ ctx = ctx ≡ None

pub record IsEnd (mine theirs : Settings) (e : End) : Type 0 where
  pub settings : e.session.settings ≡ mine
  pub context : HasContext mine theirs e.session.standing.state e.session.standing.context
  pub left : e.left ≡ not (listens e.session.standing.state)
  pub none_gone : e.gone ≡ []

-- the direction from a sender to a receiver, with some octets in hand
abbrev pub Way : Bool → Settings → Settings → List ℕ → End → End → Type 0
Way wide s t hand sender hearer =
    Goes wide s t hearer.session.standing.state hearer.session.held hand hearer.flight sender.session.standing.state sender.sent hearer.got

-- both ends, both directions, and each note is one that is allowed. Some octets towards the end that acts can be in hand
pub record IsSound (wide : Bool) (mine theirs : Settings) (allowed : Note → Type 0) (hand : List ℕ) (p : Pair) : Type 0 where
  pub this : IsEnd mine theirs p.this
  pub other : IsEnd theirs mine p.other
  pub to_this : Way wide theirs mine hand p.other p.this
  pub to_other : Way wide mine theirs [] p.this p.other
  pub notes : AllByRecursion allowed p.notes

pub turned : (wide : Bool) (mine theirs : Settings) (allowed : Note → Type 0) (this other : End) (notes : List Note)
    → IsSound wide mine theirs allowed [] (pair this other notes) → IsSound wide theirs mine allowed [] (pair other this notes)
turned wide mine theirs allowed this other notes s = record { this = s.other; other = s.this; to_this = s.to_other; to_other = s.to_this; notes = s.notes }

-- ---- actions that do nothing to a pair

module _ (side : Side) (P : Pair → Type 0) where
  flushes : (st : State) (p : Pair) → P p → P (all_acted side p (flushed st))
  flushes State.Established p h = h
  flushes State.Idle p h = h
  flushes State.Connect p h = h
  flushes State.Active p h = h
  flushes State.OpenSent p h = h
  flushes State.OpenConfirm p h = h

  -- timers are disarmed, and the routes are flushed
  pub quietly : (t : Timers) (st : State) (p : Pair) → P p → P (all_acted side p (disarmed t ++ flushed st))
  quietly t st p h = by t.retry t.hold t.keepalive
    where
      by : (retry hold keepalive : Bool) → P (all_acted side p (disarmed (record { retry = retry; hold = hold; keepalive = keepalive }) ++ flushed st))
      by false false false = flushes st p h
      by false false true = flushes st p h
      by false true false = flushes st p h
      by false true true = flushes st p h
      by true false false = flushes st p h
      by true false true = flushes st p h
      by true true false = flushes st p h
      by true true true = flushes st p h

  -- one timer is armed, or none
  pub armed : (b : Bool) (a : Action) (p : Pair) → ((q : Pair) → acted side q a ≡ q) → P p → P (all_acted side p (only_if b a))
  armed false a p same h = h
  armed true a p same h = subst P (sym (same p)) h

-- ---- notes

-- ---- states

-- a state in which a session accepts no octets
pub record IsOut (st : State) : Type 0 where
  pub deaf : listens st ≡ false
  pub context : (mine theirs : Settings) → HasContext mine theirs st None
  pub way : (wide : Bool) (s t : Settings) (held hand flight : List ℕ) (sender : State) (sent : List Update) (got : List (Update × PathInfo))
      → IsDeaf wide held flight sent got → Goes wide s t st held hand flight sender sent got
  pub back : (wide : Bool) (s t : Settings) (held hand flight : List ℕ) (sender : State) (sent : List Update) (got : List (Update × PathInfo))
      → Goes wide s t st held hand flight sender sent got → IsDeaf wide held flight sent got
  pub none : (mine theirs : Settings) (ctx : Option Context) → HasContext mine theirs st ctx → ctx ≡ None
  pub ends : (last : Stage) → EndsAt st last

pub idle_out : IsOut State.Idle
idle_out = record { deaf = refl; context = λ mine theirs. refl; way = λ wide s t held hand flight sender sent got d. d; back = λ wide s t held hand flight sender sent got d. d; none = λ mine theirs ctx is. is; ends = λ last. tt }

pub connect_out : IsOut State.Connect
connect_out = record { deaf = refl; context = λ mine theirs. refl; way = λ wide s t held hand flight sender sent got d. d; back = λ wide s t held hand flight sender sent got d. d; none = λ mine theirs ctx is. is; ends = λ last. tt }

pub active_out : IsOut State.Active
active_out = record { deaf = refl; context = λ mine theirs. refl; way = λ wide s t held hand flight sender sent got d. d; back = λ wide s t held hand flight sender sent got d. d; none = λ mine theirs ctx is. is; ends = λ last. tt }

-- where it accepts octets, it has sent something that a NOTIFICATION can follow
abbrev pub CanNotify : State → Type 0
CanNotify st = (last : Stage) → EndsAt st last → (why : Notification) → next last (SaidNotification why) ≡ Some Ended

pub sent_notifies : CanNotify State.OpenSent
sent_notifies last is why = ap (λ (st : Stage). next st (SaidNotification why)) is

pub confirm_notifies : CanNotify State.OpenConfirm
confirm_notifies last is why = ap (λ (st : Stage). next st (SaidNotification why)) is

pub established_notifies : CanNotify State.Established
established_notifies last is why = ap (λ (st : Stage). next st (SaidNotification why)) is

-- ---- an end in another state

abbrev pub in_state : End → State → Timers → End
in_state e st now = with_session e (record {
  settings = e.session.settings;
  standing = record { state = st; context = e.session.standing.context; peer = e.session.standing.peer; running = now };
  held = e.session.held;
})

-- it has left: there is no context
abbrev pub gone_to : End → State → Timers → End
gone_to e st now = away (with_session e (record {
  settings = e.session.settings;
  standing = record { state = st; context = None; peer = None; running = now };
  held = [];
}))

-- nothing is held
abbrev pub idle_in : End → State → Timers → End
idle_in e st now = with_session e (record {
  settings = e.session.settings;
  standing = record { state = st; context = e.session.standing.context; peer = e.session.standing.peer; running = now };
  held = [];
})

-- ---- what an end does where it leaves, or stays without a connection

module _ (wide : Bool) (mine theirs : Settings) (allowed : Note → Type 0) (side : Side) (e other : End) (notes : List Note) where
  abbrev Sound : List ℕ → Pair → Type 0
  Sound hand p = IsSound wide mine theirs allowed hand p

  module _ (old : State) (running : Timers) (hand : List ℕ) (s : Sound hand (pair (in_state e old running) other notes)) where
    -- timers don't matter
    pub retimed : (now : Timers) → Sound hand (pair (in_state e old now) other notes)
    retimed now = record {
      this = record { settings = s.this.settings; context = s.this.context; left = s.this.left; none_gone = s.this.none_gone };
      other = s.other;
      to_this = s.to_this;
      to_other = s.to_other;
      notes = s.notes;
    }

    module _ (new : State) (now : Timers) (in_hand : List ℕ) (out : IsOut new) where
      gone_end : IsEnd mine theirs (gone_to e new now)
      gone_end = record { settings = s.this.settings; context = out.context mine theirs; left = sym (ap not out.deaf); none_gone = s.this.none_gone }

      gone_way : Way wide theirs mine in_hand other (gone_to e new now)
      gone_way =
          out.way wide theirs mine [] in_hand [] other.session.standing.state other.sent e.got (record {
            holds_none = refl;
            none_flies = refl;
            hears = front_of wide theirs mine old e.session.held hand e.flight other.session.standing.state other.sent e.got s.to_this;
          })

      other_way : Way wide mine theirs [] (gone_to e new now) other
      other_way =
          sender_goes wide mine theirs other.session.standing.state other.session.held [] other.flight old new e.sent other.got (λ last ends. out.ends last) s.to_other

      -- it leaves and sends nothing
      pub leaves : Sound in_hand (pair (gone_to e new now) other notes)
      leaves = record { this = gone_end; other = s.other; to_this = gone_way; to_other = other_way; notes = s.notes }

      -- it sends a NOTIFICATION, and leaves
      pub notifies : (why : Notification) → CanNotify old → why.info.items ≡ [] → allowed (note_of side why)
          → Sound in_hand (pair (gone_to e new now) (towards other (notification_octets why)) (notes ++ note_of side why ∷ []))
      notifies why can short may = record {
        this = gone_end;
        other = record { settings = s.other.settings; context = s.other.context; left = s.other.left; none_gone = s.other.none_gone };
        to_this = gone_way;
        to_other =
            sender_says wide mine theirs old new (SaidNotification why) (λ last ends. record { behind = Ended; is_next = can last ends why; ends = out.ends Ended }) short
            (notification_octets why) (notification_spelled mine why) e.sent e.sent (sym (append-nil e.sent)) other.got
            other.session.standing.state other.session.held [] other.flight other.left s.other.left s.to_other;
        notes = all_push allowed notes (note_of side why) s.notes may;
      }

      context_kept : e.session.standing.context ≡ None → HasContext mine theirs new e.session.standing.context
      context_kept none = subst (λ (o : Option Context). HasContext mine theirs new o) (sym none) (out.context mine theirs)

      -- it has no context, and leaves
      pub leaves_none : e.session.standing.context ≡ None → Sound in_hand (pair (away (idle_in e new now)) other notes)
      leaves_none none = record {
        this = record { settings = s.this.settings; context = context_kept none; left = sym (ap not out.deaf); none_gone = s.this.none_gone };
        other = s.other;
        to_this = gone_way;
        to_other = other_way;
        notes = s.notes;
      }

      -- it stays without a connection
      pub stays_out : IsOut old → Sound in_hand (pair (idle_in e new now) other notes)
      stays_out was =
          let deaf = was.back wide theirs mine e.session.held hand e.flight other.session.standing.state other.sent e.got s.to_this in
          record {
            this = record {
              settings = s.this.settings;
              context = context_kept (was.none mine theirs e.session.standing.context s.this.context);
              left = s.this.left ∙ ap not (was.deaf ∙ sym out.deaf);
              none_gone = s.this.none_gone;
            };
            other = s.other;
            to_this =
                out.way wide theirs mine [] in_hand e.flight other.session.standing.state other.sent e.got
                (record { holds_none = refl; none_flies = deaf.none_flies; hears = deaf.hears });
            to_other = other_way;
            notes = s.notes;
          }
