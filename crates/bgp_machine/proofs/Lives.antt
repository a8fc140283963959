-- Invariants of a whole life: what the consumed octets are, in each state.
use Rattle.bgp_machine.proofs.Prelude.{◌≡◌, ℕ, Bool, true, false, List, [], ◌∷◌, ◌++◌, take, Option, Some, None, Result, Ok, Err, option_map, refl, sym, ap}
use Rattle.bgp_machine.proofs.Prelude.{subst, ap₂, ◌∙◌, append_assoc, arith, if◌then◌else◌, nil_from_length, HeadFault, Kind, Message, IsFrame, IsHeld}
use Rattle.bgp_machine.proofs.Prelude.{content_of, CountsFed, done_by, Notification, Context, agreement, Settings, Said, said_by, open_notification}
use Rattle.bgp_machine.proofs.Prelude.{reading_of, verdict_of, Action, Event, State, Standing, runs, listens, Step, on_agreement, answered, on_open}
use Rattle.bgp_machine.proofs.Prelude.{on_verdict, on_update, on_message, hears, happens, Machine, kept, holding, hearer, by_pull, Call, Told, Fed, Stepped}
use Rattle.bgp_machine.proofs.Prelude.{Pulled, Life, born, connects, taken_behind, told, stepped, Eats, Goes, Lives, BeginsByOpenAndKeepalive, IsAgreedOpen}
use Rattle.bgp_machine.proofs.Prelude.{Timer, content_of-message, fed_holds, settled_by}
use Rattle.std.proofs.lemmas.List.{append-nil}
use Rattle.bgp_wire.specs.Prelude.{AreOctets}
use Rattle.bgp_frame.proofs.FrameLemmas.{length-IsFrame}
use Rattle.bgp_frame.proofs.Holding.{IsHeld_nil}
use Rattle.bgp_open.specs.declared.agreement.PeerFault.{PeerFault}
use Rattle.bgp_open.specs.declared.fault.OpenFault.{OpenFault}
use Rattle.bgp_open.specs.declared.message.Open.{Open}
use Rattle.bgp_update.specs.declared.verdict.Verdict.{Verdict}
use Rattle.bgp_machine.specs.declared.timer.Timers.{Timers}
use Rattle.bgp_machine.specs.Life.{Looked}
use Rattle.bgp_machine.proofs.Cuttings.{is_hearer, looks_pull, pulls_as_fed}
use Rattle.bgp_frame.specs.Kind.{plain}
use Rattle.bgp_frame.specs.steps.AreTypes.{plain-are}

-- the octets are an OPEN that was accepted and gave the context, and what is held
record BeginsByOpen (s : Settings) (context : Option Context) (held octets : List ℕ) : Type 0 where
  spelled : List ℕ
  opened : IsAgreedOpen s context spelled
  in_order : octets ≡ spelled ++ held

-- what the consumed octets are, in each state
abbrev Stands : Settings → State → Option Context → List ℕ → List ℕ → Type 0
Stands s State.OpenSent ctx held taken = taken ≡ held
Stands s State.OpenConfirm ctx held taken = BeginsByOpen s ctx held taken
Stands s State.Established ctx held taken = BeginsByOpenAndKeepalive s ctx taken
Stands s _ ctx held taken = held ≡ []

by_if : {A : Type 0} (P : A → Type 0) (b : Bool) (x y : A) → P x → P y → P (if b then x else y)
by_if P true x y p q = p
by_if P false x y p q = q

-- ---- events

module _ (s : Settings) (ctx : Option Context) (peer : Option Said) (running : Timers) (held : List ℕ) where
  abbrev StandsBehind : List ℕ → List ℕ → Step → Type 0
  StandsBehind now taken x = Stands s x.next.state x.next.context (kept (listens x.next.state) now) taken

  event_keeps : (st : State) (e : Event) (taken : List ℕ) → Stands s st ctx held taken
      → StandsBehind held (taken_behind (connects st e) taken) (happens (record { state = st; context = ctx; peer = peer; running = running }) e)
  event_keeps State.Idle Event.Start taken h = refl
  event_keeps State.Idle Event.Stop taken h = refl
  event_keeps State.Idle Event.Connected taken h = refl
  event_keeps State.Idle Event.Failed taken h = refl
  event_keeps State.Idle (Event.Expired Timer.Retry) taken h = by_if (λ (x : Step). StandsBehind held taken x) (runs running Timer.Retry) _ _ refl refl
  event_keeps State.Idle (Event.Expired Timer.Hold) taken h = by_if (λ (x : Step). StandsBehind held taken x) (runs running Timer.Hold) _ _ refl refl
  event_keeps State.Idle (Event.Expired Timer.Keepalive) taken h = by_if (λ (x : Step). StandsBehind held taken x) (runs running Timer.Keepalive) _ _ refl refl
  event_keeps State.Connect Event.Start taken h = refl
  event_keeps State.Connect Event.Stop taken h = refl
  event_keeps State.Connect Event.Connected taken h = sym h
  event_keeps State.Connect Event.Failed taken h = refl
  event_keeps State.Connect (Event.Expired Timer.Retry) taken h = by_if (λ (x : Step). StandsBehind held taken x) (runs running Timer.Retry) _ _ refl refl
  event_keeps State.Connect (Event.Expired Timer.Hold) taken h = by_if (λ (x : Step). StandsBehind held taken x) (runs running Timer.Hold) _ _ refl refl
  event_keeps State.Connect (Event.Expired Timer.Keepalive) taken h = by_if (λ (x : Step). StandsBehind held taken x) (runs running Timer.Keepalive) _ _ refl refl
  event_keeps State.Active Event.Start taken h = refl
  event_keeps State.Active Event.Stop taken h = refl
  event_keeps State.Active Event.Connected taken h = sym h
  event_keeps State.Active Event.Failed taken h = refl
  event_keeps State.Active (Event.Expired Timer.Retry) taken h = by_if (λ (x : Step). StandsBehind held taken x) (runs running Timer.Retry) _ _ refl refl
  event_keeps State.Active (Event.Expired Timer.Hold) taken h = by_if (λ (x : Step). StandsBehind held taken x) (runs running Timer.Hold) _ _ refl refl
  event_keeps State.Active (Event.Expired Timer.Keepalive) taken h = by_if (λ (x : Step). StandsBehind held taken x) (runs running Timer.Keepalive) _ _ refl refl
  event_keeps State.OpenSent Event.Start taken h = h
  event_keeps State.OpenSent Event.Stop taken h = refl
  event_keeps State.OpenSent Event.Connected taken h = h
  event_keeps State.OpenSent Event.Failed taken h = refl
  event_keeps State.OpenSent (Event.Expired Timer.Retry) taken h = by_if (λ (x : Step). StandsBehind held taken x) (runs running Timer.Retry) _ _ h h
  event_keeps State.OpenSent (Event.Expired Timer.Hold) taken h = by_if (λ (x : Step). StandsBehind held taken x) (runs running Timer.Hold) _ _ refl h
  event_keeps State.OpenSent (Event.Expired Timer.Keepalive) taken h = by_if (λ (x : Step). StandsBehind held taken x) (runs running Timer.Keepalive) _ _ h h
  event_keeps State.OpenConfirm Event.Start taken h = h
  event_keeps State.OpenConfirm Event.Stop taken h = refl
  event_keeps State.OpenConfirm Event.Connected taken h = h
  event_keeps State.OpenConfirm Event.Failed taken h = refl
  event_keeps State.OpenConfirm (Event.Expired Timer.Retry) taken h = by_if (λ (x : Step). StandsBehind held taken x) (runs running Timer.Retry) _ _ h h
  event_keeps State.OpenConfirm (Event.Expired Timer.Hold) taken h = by_if (λ (x : Step). StandsBehind held taken x) (runs running Timer.Hold) _ _ refl h
  event_keeps State.OpenConfirm (Event.Expired Timer.Keepalive) taken h = by_if (λ (x : Step). StandsBehind held taken x) (runs running Timer.Keepalive) _ _ h h
  event_keeps State.Established Event.Start taken h = h
  event_keeps State.Established Event.Stop taken h = refl
  event_keeps State.Established Event.Connected taken h = h
  event_keeps State.Established Event.Failed taken h = refl
  event_keeps State.Established (Event.Expired Timer.Retry) taken h = by_if (λ (x : Step). StandsBehind held taken x) (runs running Timer.Retry) _ _ h h
  event_keeps State.Established (Event.Expired Timer.Hold) taken h = by_if (λ (x : Step). StandsBehind held taken x) (runs running Timer.Hold) _ _ refl h
  event_keeps State.Established (Event.Expired Timer.Keepalive) taken h = by_if (λ (x : Step). StandsBehind held taken x) (runs running Timer.Keepalive) _ _ h h

  -- ---- messages

  abbrev StandsEmptied : List ℕ → Step → Type 0
  StandsEmptied taken x = Stands s x.next.state x.next.context [] taken

  abbrev at : State → Standing
  at st = record { state = st; context = ctx; peer = peer; running = running }

  agreement_keeps : (body : List ℕ) (said : Open) (r : Result Context PeerFault) (taken : List ℕ) → IsFrame (record { kind = Kind.Open; body = body }) held
      → reading_of body ≡ Ok said → agreement s said ≡ r → taken ≡ held → StandsEmptied taken (on_agreement (at State.OpenSent) (said_by said) r)
  agreement_keeps body said (Ok agreed) taken frame read is h = record {
    spelled = held;
    opened = record { body = body; is_open = frame; said = said; is_read = read; agreed = agreed; accepted = is; gave = refl };
    in_order = h ∙ sym (append-nil held);
  }
  agreement_keeps body said (Err fault) taken frame read is h = refl

  answer_keeps : (why : Option Notification) (taken : List ℕ) → StandsEmptied taken (answered (at State.OpenSent) why)
  answer_keeps (Some why) taken = refl
  answer_keeps None taken = refl

  open_keeps : (body : List ℕ) (r : Result Open OpenFault) (taken : List ℕ) → IsFrame (record { kind = Kind.Open; body = body }) held
      → reading_of body ≡ r → taken ≡ held → StandsEmptied taken (on_open s (at State.OpenSent) r)
  open_keeps body (Ok said) taken frame read h = agreement_keeps body said (agreement s said) taken frame read refl h
  open_keeps body (Err fault) taken frame read h = answer_keeps (open_notification fault) taken

  verdict_keeps : (v : Verdict) (taken : List ℕ) → BeginsByOpenAndKeepalive s ctx taken → StandsEmptied taken (on_verdict (at State.Established) v)
  verdict_keeps (Verdict.Take u notes) taken h = h
  verdict_keeps (Verdict.Withdraw routes notes) taken h = h
  verdict_keeps (Verdict.Reset why) taken h = refl

  update_keeps : (c : Option Context) (body taken : List ℕ) → BeginsByOpenAndKeepalive s ctx taken → StandsEmptied taken (on_update (at State.Established) c body)
  update_keeps (Some c) body taken h = verdict_keeps (verdict_of c body) taken h
  update_keeps None body taken h = h

  no_body : (body : List ℕ) → IsFrame (record { kind = Kind.Keepalive; body = body }) held → body ≡ []
  no_body body frame =
      let long = length-IsFrame plain plain-are (record { kind = Kind.Keepalive; body = body }) held frame in
      let most = frame.allowed.most in
      nil_from_length body (omega arith)

  keepalive_keeps : (body taken : List ℕ) → IsFrame (record { kind = Kind.Keepalive; body = body }) held → BeginsByOpen s ctx held taken → BeginsByOpenAndKeepalive s ctx taken
  keepalive_keeps body taken frame o = record {
    open_octets = o.spelled;
    opened = o.opened;
    keepalive_octets = held;
    is_keepalive = subst (λ (b : List ℕ). IsFrame (record { kind = Kind.Keepalive; body = b }) held) (no_body body frame) frame;
    rest = [];
    in_order = o.in_order ∙ ap (λ (k : List ℕ). o.spelled ++ k) (sym (append-nil held));
  }

  message_keeps : (st : State) (k : Kind) (body taken : List ℕ) → IsFrame (record { kind = k; body = body }) held
      → Stands s st ctx held taken → StandsEmptied taken (on_message s (at st) st k body)
  message_keeps State.Idle k body taken frame h = refl
  message_keeps State.Connect k body taken frame h = refl
  message_keeps State.Active k body taken frame h = refl
  message_keeps State.OpenSent Kind.Open body taken frame h = open_keeps body (reading_of body) taken frame refl h
  message_keeps State.OpenSent Kind.Update body taken frame h = refl
  message_keeps State.OpenSent Kind.Notification body taken frame h = refl
  message_keeps State.OpenSent Kind.Keepalive body taken frame h = refl
  message_keeps State.OpenConfirm Kind.Open body taken frame h = refl
  message_keeps State.OpenConfirm Kind.Update body taken frame h = refl
  message_keeps State.OpenConfirm Kind.Notification body taken frame h = refl
  message_keeps State.OpenConfirm Kind.Keepalive body taken frame h = keepalive_keeps body taken frame h
  message_keeps State.Established Kind.Open body taken frame h = refl
  message_keeps State.Established Kind.Update body taken frame h = update_keeps ctx body taken h
  message_keeps State.Established Kind.Notification body taken frame h = refl
  message_keeps State.Established Kind.Keepalive body taken frame h = h

  hears_keeps : (st : State) (what : Result Message HeadFault) (taken : List ℕ) → IsHeld held → content_of held ≡ Some what
      → Stands s st ctx held taken → StandsEmptied taken (hears s (at st) what)
  hears_keeps st (Ok m) taken is content h = message_keeps st m.kind m.body taken (content_of-message plain plain-are m held is content) h
  hears_keeps State.Idle (Err f) taken is content h = refl
  hears_keeps State.Connect (Err f) taken is content h = refl
  hears_keeps State.Active (Err f) taken is content h = refl
  hears_keeps State.OpenSent (Err f) taken is content h = refl
  hears_keeps State.OpenConfirm (Err f) taken is content h = refl
  hears_keeps State.Established (Err f) taken is content h = refl

-- ---- calls

-- the invariant of a whole life
record Sound (s : Settings) (a : Life) : Type 0 where
  settings : a.session.settings ≡ s
  can_hold : IsHeld a.session.held
  stands : Stands s a.session.standing.state a.session.standing.context a.session.held a.taken

kept_held : (up : Bool) (held : List ℕ) → IsHeld held → IsHeld (kept up held)
kept_held true held is = is
kept_held false held is = IsHeld_nil plain plain-are

told_keeps : (s : Settings) (a : Life) (e : Event) → Sound s a → Sound s (told a e)
told_keeps s a e sound =
    let x = a.session.standing in
    record {
      settings = sound.settings;
      can_hold = kept_held (listens (happens x e).next.state) a.session.held sound.can_hold;
      stands = event_keeps s x.context x.peer x.running a.session.held x.state e a.taken sound.stands;
    }

judged_keeps : (s : Settings) (a : Life) (what : Option (Result Message HeadFault)) → Sound s a → content_of a.session.held ≡ what
    → Sound s (record { session = (done_by hearer a.session (option_map (hears a.session.settings a.session.standing) what)).session; taken = a.taken })
judged_keeps s a None sound is = sound
judged_keeps s a (Some what) sound is =
    let x = a.session.standing in
    record {
      settings = sound.settings;
      can_hold = IsHeld_nil plain plain-are;
      stands = subst (λ (t : Settings). Stands s (hears t x what).next.state (hears t x what).next.context [] a.taken) (sym sound.settings)
          (hears_keeps s x.context x.peer x.running a.session.held x.state what a.taken sound.can_hold is sound.stands);
    }

fed_stands : (s : Settings) (st : State) (ctx : Option Context) (held piece taken : List ℕ) (n : ℕ) → CountsFed (listens st) held piece n
    → Stands s st ctx held taken → Stands s st ctx (held ++ take n piece) (taken ++ take n piece)
fed_stands s State.Idle ctx held piece taken n counts h = ap (λ (k : ℕ). held ++ take k piece) counts ∙ append-nil held ∙ h
fed_stands s State.Connect ctx held piece taken n counts h = ap (λ (k : ℕ). held ++ take k piece) counts ∙ append-nil held ∙ h
fed_stands s State.Active ctx held piece taken n counts h = ap (λ (k : ℕ). held ++ take k piece) counts ∙ append-nil held ∙ h
fed_stands s State.OpenSent ctx held piece taken n counts h = ap (λ (t : List ℕ). t ++ take n piece) h
fed_stands s State.OpenConfirm ctx held piece taken n counts o = record {
  spelled = o.spelled;
  opened = o.opened;
  in_order = ap (λ (t : List ℕ). t ++ take n piece) o.in_order ∙ append_assoc o.spelled held (take n piece);
}
fed_stands s State.Established ctx held piece taken n counts o = record {
  open_octets = o.open_octets;
  opened = o.opened;
  keepalive_octets = o.keepalive_octets;
  is_keepalive = o.is_keepalive;
  rest = o.rest ++ take n piece;
  in_order =
      ap (λ (t : List ℕ). t ++ take n piece) o.in_order
      ∙ append_assoc o.open_octets (o.keepalive_octets ++ o.rest) (take n piece)
      ∙ ap (λ (t : List ℕ). o.open_octets ++ t) (append_assoc o.keepalive_octets o.rest (take n piece));
}

eats_keeps : (s : Settings) (a : Life) (piece : List ℕ) (b : Life) → Sound s a → Eats a piece b → Sound s b
eats_keeps s a piece b sound eats =
    let x = a.session.standing in
    let n = eats.count in
    let now : Life = record { session = holding a.session (a.session.held ++ take n piece); taken = a.taken ++ take n piece } in
    let same : now ≡ b = ap₂ (λ (m : Machine) (t : List ℕ). record { session = m; taken = t }) (sym eats.fed.1) (sym eats.took) in
    subst (λ (l : Life). Sound s l) same (record {
      settings = sound.settings;
      can_hold = fed_holds hearer is_hearer a.session piece n eats.octets sound.can_hold eats.fed.0;
      stands = fed_stands s x.state x.context a.session.held piece a.taken n eats.fed.0 sound.stands;
    })

-- a pull is a feed, with a step after it where something is found
hears_keeps_life : (s : Settings) (a : Life) (piece : List ℕ) (n : ℕ) (found : Option (List Action)) (b : Life) → Sound s a → AreOctets piece
    → by_pull a.session piece n found b.session → b.taken ≡ a.taken ++ take n piece → Sound s b
hears_keeps_life s a piece n None b sound octets call took =
    let fs = pulls_as_fed a.session piece n None b.session call in
    eats_keeps s a piece b sound (record { octets = octets; count = n; fed = (fs.fed.0, fs.next); took = took })
hears_keeps_life s a piece n (Some actions) b sound octets call took =
    let fs = pulls_as_fed a.session piece n (Some actions) b.session call in
    let mid : Life = record { session = holding a.session (a.session.held ++ take n piece); taken = a.taken ++ take n piece } in
    let fed = eats_keeps s a piece mid sound (record { octets = octets; count = n; fed = fs.fed; took = refl }) in
    let does = ap (λ d. d.session) (settled_by hearer is_hearer mid.session actions b.session fs.next) in
    let same : stepped mid ≡ b = ap₂ (λ (m : Machine) (t : List ℕ). record { session = m; taken = t }) does (sym took) in
    subst (λ (l : Life). Sound s l) same (judged_keeps s mid (content_of mid.session.held) fed refl)

goes_keeps : (s : Settings) (a : Life) (call : Call) (b : Life) → Sound s a → Goes a call b → Sound s b
goes_keeps s a (Told e) b sound goes = subst (λ (l : Life). Sound s l) (sym goes) (told_keeps s a e sound)
goes_keeps s a (Fed piece) b sound goes = eats_keeps s a piece b sound goes
goes_keeps s a Stepped b sound goes = subst (λ (l : Life). Sound s l) (sym goes) (judged_keeps s a (content_of a.session.held) sound refl)
goes_keeps s a (Pulled piece) b sound goes = hears_keeps_life s a piece goes.count goes.found b sound goes.octets goes.call goes.took
goes_keeps s a (Looked piece) b sound goes =
    hears_keeps_life s a piece goes.count goes.found b sound goes.octets (looks_pull a.session piece goes.count goes.found b.session goes.call) goes.took

lives_keep : (s : Settings) (a : Life) (calls : List Call) (b : Life) → Sound s a → Lives a calls b → Sound s b
lives_keep s a [] b sound lives = subst (λ (l : Life). Sound s l) (sym lives) sound
lives_keep s a (call ∷ later) b sound lives = lives_keep s lives.0 later b (goes_keeps s a call lives.0 sound lives.1) lives.2

pub established_behind : (s : Settings) (calls : List Call) (life : Life) → Lives (born s) calls life
    → life.session.standing.state ≡ State.Established → BeginsByOpenAndKeepalive s life.session.standing.context life.taken
established_behind s calls life lives up =
    let sound = lives_keep s (born s) calls life (record { settings = refl; can_hold = IsHeld_nil plain plain-are; stands = refl }) lives in
    let x = life.session in
    subst (λ (st : State). Stands s st x.standing.context x.held life.taken) up sound.stands
