-- A received message keeps the invariant of two ends.
use Rattle.bgp_session.proofs.Prelude.{◌≡◌, ◌/◌, ℕ, Bool, true, false, List, [], ◌∷◌, ◌++◌, map, Option, Some, Result, Ok, Err, refl, sym, ap, subst, ◌∙◌}
use Rattle.bgp_session.proofs.Prelude.{append_assoc, if◌then◌else◌, nat_lt, AllByRecursion, map-append, append-nil, nothing_waits, PeerFault, Context}
use Rattle.bgp_session.proofs.Prelude.{agreement, peer_notification, said_by, Settings, own_of, reading_of, Action, State, Timers, told_in, Standing, agreed}
use Rattle.bgp_session.proofs.Prelude.{Step, go, on_agreement, on_open, on_verdict, on_update, on_message, Timer, PathInfo, Update, Verdict, onward_of}
use Rattle.bgp_session.proofs.Prelude.{rebuilt, Side, CanBeSet, heard, End, with_session, towards, keepalive_octets, notification_octets, Note, Pair, pair}
use Rattle.bgp_session.proofs.Prelude.{note_of, all_acted}
use Rattle.bgp_open.specs.declared.fault.OpenFault.{OpenFault}
use Rattle.bgp_open.specs.declared.message.Open.{Open}
use Rattle.bgp_session.proofs.Facts.{keepalive_spelled, open_read, update_read, update_heard}
use Rattle.bgp_session.proofs.Sayings.{Said, SaidOpen, SaidKeepalive, SaidNotification, SaidUpdate, open_body, update_body, message_of, spellings, updates_of, updates_in, Fits, Stage, WantsOpen, WantsKeepalive, Runs, next, Follows, EndsAt}
use Rattle.bgp_session.proofs.Ways.{MaySay, sender_goes, sender_says}
use Rattle.bgp_session.proofs.Ends.{IsAgreed, IsSound, quietly, armed, idle_out, sent_notifies, in_state, gone_to, leaves, notifies}
use Rattle.bgp_frame.specs.Kind.{plain}
use Rattle.bgp_frame.specs.steps.AreTypes.{plain-are}

-- what an end needs to know of both settings: the other's are possible, both agree on one context, and it may refuse the other where it does
pub record Know (mine theirs : Settings) (allowed : Note → Type 0) (side : Side) : Type 0 where
  pub can : CanBeSet theirs
  pub agree : (x y : Context) → agreement mine (own_of theirs) ≡ Ok x → agreement theirs (own_of mine) ≡ Ok y → x ≡ y
  pub refuses : (fault : PeerFault) → agreement mine (own_of theirs) ≡ Err fault → allowed (note_of side (peer_notification fault))

-- a message is received at a stage, with others pending after it
pub record HeardAt (wide : Bool) (mine theirs : Settings) (e other : End) (hand : List ℕ) (from : Stage) (m : Said) : Type 0 where
  pub pending : List Said
  pub last : Stage
  pub follows : Follows (next from m) pending last
  pub ends : EndsAt other.session.standing.state last
  pub fits : Fits wide theirs mine m
  pub fit : AllByRecursion (Fits wide theirs mine) pending
  pub front : List Update
  pub got_so : e.got ≡ map (heard wide) front
  pub sent_so : other.sent ≡ front ++ (updates_of m ++ updates_in pending)
  pub rest : hand ++ e.flight ≡ spellings theirs pending

short_fault : (fault : PeerFault) → (peer_notification fault).info.items ≡ []
short_fault PeerFault.PeerAs = refl
short_fault PeerFault.Identifier = refl

-- an OPEN is answered by a KEEPALIVE
confirms : (last : Stage) → EndsAt State.OpenSent last → MaySay State.OpenSent State.OpenConfirm SaidKeepalive last
confirms last is = record { behind = Runs; is_next = ap (λ (st : Stage). next st SaidKeepalive) is; ends = refl }

module _ (wide : Bool) (mine theirs : Settings) (allowed : Note → Type 0) (side : Side) (know : Know mine theirs allowed side) (e other : End) (notes : List Note)
    (running : Timers) (in_hand hand : List ℕ) where
  abbrev Sound : Pair → Type 0
  Sound p = IsSound wide mine theirs allowed hand p

  -- before it, some octets were in hand
  abbrev Was : State → Type 0
  Was st = IsSound wide mine theirs allowed in_hand (pair (in_state e st running) other notes)

  abbrev HearsNow : Stage → Said → Type 0
  HearsNow from m = HeardAt wide mine theirs e other hand from m

  abbrev standing : State → Standing
  standing st = record { state = st; context = e.session.standing.context; peer = e.session.standing.peer; running = running }

  -- the pair after a step on a message: nothing is held after it
  abbrev by_heard : Step → Pair
  by_heard step = all_acted side (pair (with_session e (record { settings = e.session.settings; standing = step.next; held = [] })) other notes) step.actions

  abbrev Behind : Step → Type 0
  Behind step = Sound (by_heard step)

  leave : (st : State) → Was st → (now : Timers) → Sound (pair (gone_to e State.Idle now) other notes)
  leave st was now = leaves wide mine theirs allowed side e other notes st running in_hand was State.Idle now hand idle_out

  -- ---- an OPEN is accepted, or refused

  -- a session in OpenConfirm
  abbrev confirmed : Context → Timers → End
  confirmed c now = with_session e (record { settings = e.session.settings; standing = record { state = State.OpenConfirm; context = Some c; peer = Some (said_by (own_of theirs)); running = now }; held = [] })

  module _ (was : Was State.OpenSent) (h : HearsNow WantsOpen SaidOpen) where
    accepts : (c : Context) → agreement e.session.settings (own_of theirs) ≡ Ok c → (now : Timers) → Sound (pair (confirmed c now) (towards other keepalive_octets) notes)
    accepts c is now = record {
      this = record {
        settings = was.this.settings;
        context = record { agreed = c; is = refl; both = ap (λ (s : Settings). agreement s (own_of theirs)) (sym was.this.settings) ∙ is };
        left = was.this.left;
        none_gone = was.this.none_gone;
      };
      other = record { settings = was.other.settings; context = was.other.context; left = was.other.left; none_gone = was.other.none_gone };
      to_this = record {
        waits = nothing_waits plain plain-are;
        last = h.last;
        ends = h.ends;
        coming = record { pending = h.pending; spelled = h.rest; follows = h.follows; fit = h.fit; front = h.front; got_so = h.got_so; sent_so = h.sent_so };
      };
      to_other =
          sender_says wide mine theirs State.OpenSent State.OpenConfirm SaidKeepalive confirms tt keepalive_octets (keepalive_spelled mine) e.sent e.sent (sym (append-nil e.sent)) other.got
          other.session.standing.state other.session.held [] other.flight other.left was.other.left was.to_other;
      notes = was.notes;
    }

    refuses : (fault : PeerFault) → agreement e.session.settings (own_of theirs) ≡ Err fault → (now : Timers)
        → Sound (pair (gone_to e State.Idle now) (towards other (notification_octets (peer_notification fault))) (notes ++ note_of side (peer_notification fault) ∷ []))
    refuses fault is now =
        notifies wide mine theirs allowed side e other notes State.OpenSent running in_hand was State.Idle now hand idle_out (peer_notification fault) sent_notifies
        (short_fault fault) (know.refuses fault (ap (λ (s : Settings). agreement s (own_of theirs)) (sym was.this.settings) ∙ is))

    -- with timers, or without
    accepted_with : (c : Context) → agreement e.session.settings (own_of theirs) ≡ Ok c → (timed : Bool) → Behind (go (agreed (standing State.OpenSent) (said_by (own_of theirs)) c)
        (if timed then Action.SendKeepalive ∷ Action.Arm Timer.Hold c.hold ∷ Action.Arm Timer.Keepalive (c.hold / 3) ∷ [] else Action.SendKeepalive ∷ Action.Disarm Timer.Hold ∷ []) State.OpenConfirm)
    accepted_with c is true = accepts c is _
    accepted_with c is false = accepts c is _

    agreement_heard : (r : Result Context PeerFault) → agreement e.session.settings (own_of theirs) ≡ r → Behind (on_agreement (standing State.OpenSent) (said_by (own_of theirs)) r)
    agreement_heard (Ok c) is = accepted_with c is (nat_lt 0 c.hold)
    agreement_heard (Err fault) is = quietly side Sound running State.OpenSent _ (refuses fault is _)

    open_heard : Behind (on_open e.session.settings (standing State.OpenSent) (reading_of (open_body theirs)))
    open_heard =
        subst (λ (r : Result Open OpenFault). Behind (on_open e.session.settings (standing State.OpenSent) r)) (sym (open_read theirs know.can))
        (agreement_heard (agreement e.session.settings (own_of theirs)) refl)

  -- ---- the session continues in Established

  abbrev established : Timers → List (Update × PathInfo) → End
  established now got = record {
    session = record {
      settings = e.session.settings;
      standing = record { state = State.Established; context = e.session.standing.context; peer = e.session.standing.peer; running = now };
      held = [];
    };
    left = e.left;
    flight = e.flight;
    sent = e.sent;
    got = got;
    gone = e.gone;
  }

  -- what was sent before is unchanged
  module _ (st : State) (was : Was st) (up : e.left ≡ false) (agrees : IsAgreed mine theirs e.session.standing.context) (ran : (last : Stage) → EndsAt st last → last ≡ Runs)
      (from : Stage) (m : Said) (h : HearsNow from m) (follows : Follows (Some Runs) h.pending h.last) (now : Timers) where
    runs_on : (got : List (Update × PathInfo)) (front : List Update) → got ≡ map (heard wide) front → other.sent ≡ front ++ updates_in h.pending → Sound (pair (established now got) other notes)
    runs_on got front got_so sent_so = record {
      this = record { settings = was.this.settings; context = agrees; left = up; none_gone = was.this.none_gone };
      other = was.other;
      to_this = record {
        waits = nothing_waits plain plain-are;
        last = h.last;
        ends = h.ends;
        coming = record { pending = h.pending; spelled = h.rest; follows = follows; fit = h.fit; front = front; got_so = got_so; sent_so = sent_so };
      };
      to_other = sender_goes wide mine theirs other.session.standing.state other.session.held [] other.flight st State.Established e.sent other.got ran was.to_other;
      notes = was.notes;
    }

  abbrev pub OnMessage : State → Said → Type 0
  OnMessage st m = Behind (on_message e.session.settings (standing st) st (message_of theirs m).kind (message_of theirs m).body)

  -- the Hold Timer is restarted, or there is none
  keepalive_confirms : Was State.OpenConfirm → HearsNow WantsKeepalive SaidKeepalive → OnMessage State.OpenConfirm SaidKeepalive
  keepalive_confirms was h =
      armed side Sound _ _ _ (λ q. refl)
      (runs_on State.OpenConfirm was was.this.left was.this.context (λ last is. is) WantsKeepalive SaidKeepalive h h.follows _ e.got h.front h.got_so h.sent_so)

  keepalive_runs : Was State.Established → HearsNow Runs SaidKeepalive → OnMessage State.Established SaidKeepalive
  keepalive_runs was h =
      armed side Sound _ _ _ (λ q. refl)
      (runs_on State.Established was was.this.left was.this.context (λ last is. is) Runs SaidKeepalive h h.follows _ e.got h.front h.got_so h.sent_so)

  -- ---- an UPDATE

  module _ (was : Was State.Established) (c : Context) (u : Update) (h : HearsNow Runs (SaidUpdate c u)) where
    -- it is announced
    take_heard : (v : Update) → (let take : Update × PathInfo = (onward_of v, rebuilt v.attrs) in take ≡ heard wide u) → Behind (on_verdict (standing State.Established) (Verdict.Take v []))
    take_heard v is =
        let take : Update × PathInfo = (onward_of v, rebuilt v.attrs) in
        armed side Sound _ _ _ (λ q. refl)
        (runs_on State.Established was was.this.left was.this.context (λ last ends. ends) Runs (SaidUpdate c u) h h.follows _ (e.got ++ take ∷ []) (h.front ++ u ∷ [])
        (ap (λ (l : List (Update × PathInfo)). l ++ take ∷ []) h.got_so ∙ ap (λ (one : Update × PathInfo). map (heard wide) h.front ++ one ∷ []) is ∙ sym (map-append (heard wide) h.front (u ∷ [])))
        (h.sent_so ∙ sym (append_assoc h.front (u ∷ []) (updates_in h.pending))))

    -- it was written in the context in which it is read
    one_context : e.session.standing.context ≡ Some c
    one_context =
        let here = was.this.context in
        here.is ∙ ap (λ (x : Context). Some x) (know.agree here.agreed c here.both h.fits.agreed)

    update_heard_so : OnMessage State.Established (SaidUpdate c u)
    update_heard_so =
        subst (λ (o : Option Context). Behind (on_update (standing State.Established) o (update_body c u))) (sym one_context)
        (subst (λ (v : Verdict). Behind (on_verdict (standing State.Established) v)) (sym (update_read wide theirs mine c u h.fits))
        (take_heard (told_in c u) (update_heard wide theirs mine c u h.fits)))

  -- ---- each message, where it may occur

  pub sent_hears : (m : Said) → Was State.OpenSent → HearsNow WantsOpen m → OnMessage State.OpenSent m
  sent_hears SaidOpen was h = open_heard was h
  sent_hears SaidKeepalive was h = absurd h.follows
  sent_hears (SaidNotification why) was h = absurd h.follows
  sent_hears (SaidUpdate c u) was h = absurd h.follows

  pub confirm_hears : (m : Said) → Was State.OpenConfirm → HearsNow WantsKeepalive m → OnMessage State.OpenConfirm m
  confirm_hears SaidOpen was h = absurd h.follows
  confirm_hears SaidKeepalive was h = keepalive_confirms was h
  confirm_hears (SaidNotification why) was h = quietly side Sound running State.OpenConfirm _ (leave State.OpenConfirm was _)
  confirm_hears (SaidUpdate c u) was h = absurd h.follows

  pub established_hears : (m : Said) → Was State.Established → HearsNow Runs m → OnMessage State.Established m
  established_hears SaidOpen was h = absurd h.follows
  established_hears SaidKeepalive was h = keepalive_runs was h
  established_hears (SaidNotification why) was h = quietly side Sound running State.Established _ (leave State.Established was _)
  established_hears (SaidUpdate c u) was h = update_heard_so was c u h
