-- An event keeps the invariant of two ends.
use Rattle.bgp_session.proofs.Prelude.{Bool, true, false, List, [], ◌∷◌, ◌++◌, ℕ, None, ◌≡◌, refl, sym, ap, if◌then◌else◌, append-nil, Notification, Settings}
use Rattle.bgp_session.proofs.Prelude.{Event, State, Timer, Timers, kept, listens, runs, timers_with, Step, disarmed, flushed, cease, held_too_long, Side}
use Rattle.bgp_session.proofs.Prelude.{End, with_session, away, towards, keepalive_octets, notification_octets, Note, Pair, pair, note_of, all_acted, told}
use Rattle.bgp_session.proofs.Facts.{keepalive_spelled}
use Rattle.bgp_session.proofs.Sayings.{SaidKeepalive, Stage, next, EndsAt, Runs}
use Rattle.bgp_session.proofs.Ways.{MaySay, sender_says}
use Rattle.bgp_session.proofs.Ends.{IsSound, quietly, idle_out, connect_out, active_out, CanNotify, sent_notifies, confirm_notifies, established_notifies, IsOut, in_state, gone_to, idle_in, retimed, leaves, notifies, leaves_none, stays_out}

-- which notes an event may lead to. Connections are separate
abbrev pub MayNote : (Note → Type 0) → Side → Event → Type 0
MayNote allowed side Event.Connected = ⊥
MayNote allowed side Event.Stop = allowed (note_of side cease)
MayNote allowed side (Event.Expired Timer.Hold) = allowed (note_of side held_too_long)
MayNote allowed side _ = Unit {0}

-- a KEEPALIVE may be sent once the other's OPEN was accepted
confirm_says : (last : Stage) → EndsAt State.OpenConfirm last → MaySay State.OpenConfirm State.OpenConfirm SaidKeepalive last
confirm_says last is = record { behind = Runs; is_next = ap (λ (st : Stage). next st SaidKeepalive) is; ends = refl }

established_says : (last : Stage) → EndsAt State.Established last → MaySay State.Established State.Established SaidKeepalive last
established_says last is = record { behind = Runs; is_next = ap (λ (st : Stage). next st SaidKeepalive) is; ends = refl }

module _ (wide : Bool) (mine theirs : Settings) (allowed : Note → Type 0) (side : Side) (e other : End) (notes : List Note) (running : Timers) (hand : List ℕ) where
  abbrev Sound : Pair → Type 0
  Sound p = IsSound wide mine theirs allowed hand p

  abbrev before : State → Pair
  before st = pair (in_state e st running) other notes

  -- ---- what an event can do

  still : (st : State) → Sound (before st) → (now : Timers) → Sound (pair (in_state e st now) other notes)
  still st was now = retimed wide mine theirs allowed side e other notes st running hand was now

  stay : (st new : State) → Sound (before st) → (now : Timers) → IsOut st → IsOut new → Sound (pair (idle_in e new now) other notes)
  stay st new was now is out = stays_out wide mine theirs allowed side e other notes st running hand was new now hand out is

  leave : (st new : State) → Sound (before st) → (now : Timers) → IsOut new → Sound (pair (gone_to e new now) other notes)
  leave st new was now out = leaves wide mine theirs allowed side e other notes st running hand was new now hand out

  leave_none : (st new : State) → Sound (before st) → (now : Timers) → e.session.standing.context ≡ None → IsOut new → Sound (pair (away (idle_in e new now)) other notes)
  leave_none st new was now none out = leaves_none wide mine theirs allowed side e other notes st running hand was new now hand out none

  -- it resets the session: to Idle
  reset_by : (st : State) → Sound (before st) → (now : Timers) (why : Notification) → CanNotify st → why.info.items ≡ [] → allowed (note_of side why)
      → Sound (pair (gone_to e State.Idle now) (towards other (notification_octets why)) (notes ++ note_of side why ∷ []))
  reset_by st was now why can short may = notifies wide mine theirs allowed side e other notes st running hand was State.Idle now hand idle_out why can short may

  keepalive_said : (st : State) → ((last : Stage) → EndsAt st last → MaySay st st SaidKeepalive last) → Sound (before st) → (now : Timers)
      → Sound (pair (in_state e st now) (towards other keepalive_octets) notes)
  keepalive_said st may was now = record {
    this = record { settings = was.this.settings; context = was.this.context; left = was.this.left; none_gone = was.this.none_gone };
    other = record { settings = was.other.settings; context = was.other.context; left = was.other.left; none_gone = was.other.none_gone };
    to_this = was.to_this;
    to_other =
        sender_says wide mine theirs st st SaidKeepalive may tt keepalive_octets (keepalive_spelled mine) e.sent e.sent (sym (append-nil e.sent)) other.got
        other.session.standing.state other.session.held [] other.flight other.left was.other.left was.to_other;
    notes = was.notes;
  }

  -- timers are disarmed after it
  hush : (t : Timers) (st : State) (p : Pair) → Sound p → Sound (all_acted side p (disarmed t ++ flushed st))
  hush t st p is = quietly side Sound t st p is

  -- ---- each event

  abbrev Keeps : State → Event → Type 0
  Keeps st event = Sound (told side (before st) event)

  start_keeps : (st : State) → Sound (before st) → Keeps st Event.Start
  start_keeps State.Idle was = stay State.Idle State.Connect was _ idle_out connect_out
  start_keeps State.Connect was = stay State.Connect State.Connect was _ connect_out connect_out
  start_keeps State.Active was = stay State.Active State.Active was _ active_out active_out
  start_keeps State.OpenSent was = was
  start_keeps State.OpenConfirm was = was
  start_keeps State.Established was = was

  stop_keeps : (st : State) → Sound (before st) → allowed (note_of side cease) → Keeps st Event.Stop
  stop_keeps State.Idle was may = stay State.Idle State.Idle was _ idle_out idle_out
  stop_keeps State.Connect was may = hush running State.Connect _ (leave State.Connect State.Idle was _ idle_out)
  stop_keeps State.Active was may = hush running State.Active _ (leave State.Active State.Idle was _ idle_out)
  stop_keeps State.OpenSent was may = hush running State.OpenSent _ (reset_by State.OpenSent was _ cease sent_notifies refl may)
  stop_keeps State.OpenConfirm was may = hush running State.OpenConfirm _ (reset_by State.OpenConfirm was _ cease confirm_notifies refl may)
  stop_keeps State.Established was may = hush running State.Established _ (reset_by State.Established was _ cease established_notifies refl may)

  failed_keeps : (st : State) → Sound (before st) → Keeps st Event.Failed
  failed_keeps State.Idle was = leave_none State.Idle State.Idle was _ was.this.context idle_out
  failed_keeps State.Connect was = hush running State.Connect _ (leave State.Connect State.Idle was _ idle_out)
  failed_keeps State.Active was = hush running State.Active _ (leave State.Active State.Idle was _ idle_out)
  failed_keeps State.OpenSent was = leave_none State.OpenSent State.Active was _ was.this.context active_out
  failed_keeps State.OpenConfirm was = hush running State.OpenConfirm _ (leave State.OpenConfirm State.Idle was _ idle_out)
  failed_keeps State.Established was = hush running State.Established _ (leave State.Established State.Idle was _ idle_out)

  -- ---- a timer that expires

  abbrev stopped : Timer → Timers
  stopped t = timers_with t false running

  -- the pair after a step
  abbrev by_step : State → Step → Pair
  by_step st step =
      all_acted side
      (pair (with_session e (record { settings = e.session.settings; standing = step.next; held = kept (listens step.next.state) e.session.held })) other notes)
      step.actions

  -- the timer runs, or nothing happens
  if_runs : (b : Bool) (st : State) (x y : Step) → Sound (by_step st x) → Sound (by_step st y) → Sound (by_step st (if b then x else y))
  if_runs true st x y p q = p
  if_runs false st x y p q = q

  -- without a connection no timer but the ConnectRetry Timer does anything
  idle_expires : (st : State) → Sound (before st) → IsOut st → (t : Timer) → Sound (pair (idle_in e st (stopped t)) other notes)
  idle_expires st was out t = stay st st was (stopped t) out out

  expired_keeps : (st : State) (t : Timer) → Sound (before st) → MayNote allowed side (Event.Expired t) → Keeps st (Event.Expired t)
  expired_keeps State.Idle t was may = if_runs (runs running t) State.Idle _ _ (idle_expires State.Idle was idle_out t) (stay State.Idle State.Idle was running idle_out idle_out)
  expired_keeps State.Connect Timer.Retry was may =
      if_runs (runs running Timer.Retry) State.Connect _ _ (leave_none State.Connect State.Connect was _ was.this.context connect_out) (stay State.Connect State.Connect was running connect_out connect_out)
  expired_keeps State.Connect Timer.Hold was may =
      if_runs (runs running Timer.Hold) State.Connect _ _ (idle_expires State.Connect was connect_out Timer.Hold) (stay State.Connect State.Connect was running connect_out connect_out)
  expired_keeps State.Connect Timer.Keepalive was may =
      if_runs (runs running Timer.Keepalive) State.Connect _ _ (idle_expires State.Connect was connect_out Timer.Keepalive) (stay State.Connect State.Connect was running connect_out connect_out)
  expired_keeps State.Active Timer.Retry was may =
      if_runs (runs running Timer.Retry) State.Active _ _ (stay State.Active State.Connect was _ active_out connect_out) (stay State.Active State.Active was running active_out active_out)
  expired_keeps State.Active Timer.Hold was may =
      if_runs (runs running Timer.Hold) State.Active _ _ (idle_expires State.Active was active_out Timer.Hold) (stay State.Active State.Active was running active_out active_out)
  expired_keeps State.Active Timer.Keepalive was may =
      if_runs (runs running Timer.Keepalive) State.Active _ _ (idle_expires State.Active was active_out Timer.Keepalive) (stay State.Active State.Active was running active_out active_out)
  expired_keeps State.OpenSent Timer.Retry was may = if_runs (runs running Timer.Retry) State.OpenSent _ _ (still State.OpenSent was (stopped Timer.Retry)) was
  expired_keeps State.OpenSent Timer.Hold was may =
      if_runs (runs running Timer.Hold) State.OpenSent _ _ (hush (stopped Timer.Hold) State.OpenSent _ (reset_by State.OpenSent was _ held_too_long sent_notifies refl may)) was
  expired_keeps State.OpenSent Timer.Keepalive was may = if_runs (runs running Timer.Keepalive) State.OpenSent _ _ (still State.OpenSent was (stopped Timer.Keepalive)) was
  expired_keeps State.OpenConfirm Timer.Retry was may = if_runs (runs running Timer.Retry) State.OpenConfirm _ _ (still State.OpenConfirm was (stopped Timer.Retry)) was
  expired_keeps State.OpenConfirm Timer.Hold was may =
      if_runs (runs running Timer.Hold) State.OpenConfirm _ _ (hush (stopped Timer.Hold) State.OpenConfirm _ (reset_by State.OpenConfirm was _ held_too_long confirm_notifies refl may)) was
  expired_keeps State.OpenConfirm Timer.Keepalive was may = if_runs (runs running Timer.Keepalive) State.OpenConfirm _ _ (keepalive_said State.OpenConfirm confirm_says was _) was
  expired_keeps State.Established Timer.Retry was may = if_runs (runs running Timer.Retry) State.Established _ _ (still State.Established was (stopped Timer.Retry)) was
  expired_keeps State.Established Timer.Hold was may =
      if_runs (runs running Timer.Hold) State.Established _ _ (hush (stopped Timer.Hold) State.Established _ (reset_by State.Established was _ held_too_long established_notifies refl may)) was
  expired_keeps State.Established Timer.Keepalive was may = if_runs (runs running Timer.Keepalive) State.Established _ _ (keepalive_said State.Established established_says was _) was

  keeps_at : (st : State) (event : Event) → Sound (before st) → MayNote allowed side event → Keeps st event
  keeps_at st Event.Start was may = start_keeps st was
  keeps_at st Event.Stop was may = stop_keeps st was may
  keeps_at st Event.Connected was may = absurd may
  keeps_at st Event.Failed was may = failed_keeps st was
  keeps_at st (Event.Expired t) was may = expired_keeps st t was may

-- an event other than a connection keeps the invariant
pub event_keeps : (wide : Bool) (mine theirs : Settings) (allowed : Note → Type 0) (side : Side) (hand : List ℕ) (p : Pair) (e : Event)
    → IsSound wide mine theirs allowed hand p → MayNote allowed side e → IsSound wide mine theirs allowed hand (told side p e)
event_keeps wide mine theirs allowed side hand p e was may =
    keeps_at wide mine theirs allowed side p.this p.other p.notes p.this.session.standing.running hand p.this.session.standing.state e was may
