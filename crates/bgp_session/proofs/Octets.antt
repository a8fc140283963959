-- Octets that are fed keep the invariant of two ends.
use Rattle.bgp_session.proofs.Prelude.{◌≡◌, ℕ, Bool, true, List, [], ◌∷◌, ◌++◌, length, map, Option, Some, Ok, option_map, refl, sym, ap, subst, ◌∙◌}
use Rattle.bgp_session.proofs.Prelude.{append_assoc, arith, inl, inr, AllByRecursion, length-append, Message, IsFrame, Waits, done_by, with_octet, HeadFault}
use Rattle.bgp_session.proofs.Prelude.{nothing_waits, Result, Settings, Action, State, Timers, Done, settled, by_octet, by_octets, Machine, holding, hearer}
use Rattle.bgp_session.proofs.Prelude.{after_step, listens, Step, hears, is_hearer, Update, Side, with_machine, heard, End, Note, Pair, pair, all_acted, fed}
use Rattle.bgp_frame.proofs.Hearings as hearings
use Rattle.bgp_frame.proofs.Contents.{content_of-frame}
use Rattle.bgp_session.proofs.Acts.{all_keeps, all_moves, acted_both}
use Rattle.bgp_session.proofs.Facts.{spelled_frame}
use Rattle.bgp_session.proofs.Feeds.{octets_settings}
use Rattle.bgp_session.proofs.Sayings.{Said, message_of, spelling, spellings, updates_in, Fits, Stage, WantsOpen, WantsKeepalive, Runs, Follows, EndsAt}
use Rattle.bgp_session.proofs.Streams.{waits_or_ends}
use Rattle.bgp_session.proofs.Ways.{IsHearing, Goes}
use Rattle.bgp_session.proofs.Ends.{IsSound, IsOut, idle_out, connect_out, active_out, in_state}
use Rattle.bgp_session.proofs.Hearings.{Know, HeardAt, OnMessage, sent_hears, confirm_hears, established_hears}
use Rattle.bgp_frame.specs.Kind.{plain}
use Rattle.bgp_frame.specs.steps.AreTypes.{plain-are}

-- ---- one octet, and then the others

abbrev pub done : List Action → Machine → Done
done actions x = record { actions = actions; session = x }

octet_first : (side : Side) (p : Pair) (octet : ℕ) (later : List ℕ) (actions : List Action) (y : Machine) → by_octet p.this.session octet ≡ done actions y
    → fed side p (octet ∷ later) ≡ fed side (all_acted side (with_machine p y) actions) later
octet_first side p octet later actions y is =
    let d : Done = by_octets y later in
    let q : Pair = all_acted side (with_machine p y) actions in
    let keeps : q.this.session ≡ y = all_keeps side (with_machine p y) actions in
    ap (λ (e : Done). all_acted side (with_machine p (by_octets e.session later).session) (e.actions ++ (by_octets e.session later).actions)) is
    ∙ acted_both side (with_machine p d.session) actions d.actions
    ∙ ap (λ (r : Pair). all_acted side r d.actions) (all_moves side (with_machine p y) d.session actions (octets_settings y later))
    ∙ ap (λ (m : Machine). all_acted side (with_machine q (by_octets m later).session) (by_octets m later).actions) (sym keeps)

-- ---- an octet

rests : (x : Machine) → Waits x.held → settled x ≡ done [] x
rests x waits = hearings.rests hearer is_hearer x waits

-- what is done on an octet, and that it keeps the invariant
pub record Keeps (wide : Bool) (mine theirs : Settings) (allowed : Note → Type 0) (side : Side) (hand : List ℕ) (octet : ℕ) (p : Pair) : Type 0 where
  pub actions : List Action
  pub session : Machine
  pub does : by_octet p.this.session octet ≡ done actions session
  pub sound : IsSound wide mine theirs allowed hand (all_acted side (with_machine p session) actions)

module _ (wide : Bool) (mine theirs : Settings) (allowed : Note → Type 0) (side : Side) (know : Know mine theirs allowed side) (e other : End) (notes : List Note)
    (running : Timers) (octet : ℕ) (hand : List ℕ) where
  abbrev Was : State → Type 0
  Was st = IsSound wide mine theirs allowed (octet ∷ hand) (pair (in_state e st running) other notes)

  abbrev KeepsAt : State → Type 0
  KeepsAt st = Keeps wide mine theirs allowed side hand octet (pair (in_state e st running) other notes)

  abbrev machine : State → List ℕ → Machine
  machine st held = holding (in_state e st running).session held

  abbrev held : List ℕ
  held = e.session.held

  abbrev more : List ℕ
  more = held ++ octet ∷ []

  abbrev HearsNow : Stage → Said → Type 0
  HearsNow from m = HeardAt wide mine theirs e other hand from m

  abbrev KeepsMessage : State → Said → Type 0
  KeepsMessage st m = OnMessage wide mine theirs allowed side know e other notes running (octet ∷ hand) hand st m

  abbrev Hearing : Stage → List ℕ → Type 0
  Hearing from h = IsHearing wide theirs mine from h (hand ++ e.flight) other.session.standing.state other.sent e.got

  -- where it is accepted
  module _ (st : State) (from : Stage) (up : listens st ≡ true)
      (way : (h : List ℕ) → Hearing from h → Goes wide theirs mine st h hand e.flight other.session.standing.state other.sent e.got)
      (on : (m : Said) → Was st → HearsNow from m → KeepsMessage st m) (was : Was st) where
    takes : by_octet (machine st held) octet ≡ settled (machine st more)
    takes = ap (λ (b : Bool). settled (machine st (with_octet b held octet))) up

    module _ (m : Said) (later : List Said) (last : Stage) (spelled : held ++ octet ∷ (hand ++ e.flight) ≡ spellings theirs (m ∷ later)) (follows : Follows (Some from) (m ∷ later) last)
        (ends : EndsAt other.session.standing.state last) (fit : AllByRecursion (Fits wide theirs mine) (m ∷ later)) (front : List Update) (got_so : e.got ≡ map (heard wide) front)
        (sent_so : other.sent ≡ front ++ updates_in (m ∷ later)) where
      -- it is held
      holds : Waits more → KeepsAt st
      holds waits = record {
        actions = [];
        session = machine st more;
        does = takes ∙ rests (machine st more) waits;
        sound = record {
          this = record { settings = was.this.settings; context = was.this.context; left = was.this.left; none_gone = was.this.none_gone };
          other = was.other;
          to_this = way more (record {
            waits = waits;
            last = last;
            ends = ends;
            coming = record {
              pending = m ∷ later;
              spelled = append_assoc held (octet ∷ []) (hand ++ e.flight) ∙ spelled;
              follows = follows;
              fit = fit;
              front = front;
              got_so = got_so;
              sent_so = sent_so;
            };
          });
          to_other = was.to_other;
          notes = was.notes;
        };
      }

      -- a message is whole with it
      completes : IsFrame (message_of theirs m) (spelling theirs m) → more ≡ spelling theirs m → hand ++ e.flight ≡ spellings theirs later → KeepsAt st
      completes frame whole rest =
          let y : Machine = machine st more in
          let said : Message = message_of theirs m in
          let step : Step = hears y.settings y.standing (Ok said) in
          let comes = content_of-frame plain plain-are said more (subst (λ (b : List ℕ). IsFrame said b) (sym whole) frame) in
          record {
            actions = step.actions;
            session = after_step y step;
            does = takes ∙ ap (λ (o : Option (Result Message HeadFault)). done_by hearer y (option_map (hears y.settings y.standing) o)) comes;
            sound = on m was (record {
              pending = later;
              last = last;
              follows = follows;
              ends = ends;
              fits = fit.0;
              fit = fit.1;
              front = front;
              got_so = got_so;
              sent_so = sent_so;
              rest = rest;
            });
          }

    by_pending : (ms : List Said) (last : Stage) → Waits held → held ++ octet ∷ (hand ++ e.flight) ≡ spellings theirs ms → Follows (Some from) ms last → EndsAt other.session.standing.state last
        → AllByRecursion (Fits wide theirs mine) ms → (front : List Update) → e.got ≡ map (heard wide) front → other.sent ≡ front ++ updates_in ms → KeepsAt st
    by_pending [] last waits spelled follows ends fit front got_so sent_so = absurd (omega (arith, ap length spelled, length-append held (octet ∷ (hand ++ e.flight))))
    by_pending (m ∷ later) last waits spelled follows ends fit front got_so sent_so =
        let frame = spelled_frame wide theirs mine know.can m fit.0 in
        elim (waits_or_ends (message_of theirs m) held octet (hand ++ e.flight) (spelling theirs m) (spellings theirs later) waits frame spelled) [
          | inl more_waits ↦ holds m later last spelled follows ends fit front got_so sent_so more_waits
          | inr ends_there ↦ completes m later last spelled follows ends fit front got_so sent_so frame ends_there.0 ends_there.1
        ]

    up_keeps : IsHearing wide theirs mine from held (octet ∷ (hand ++ e.flight)) other.session.standing.state other.sent e.got → KeepsAt st
    up_keeps h = let c = h.coming in by_pending c.pending h.last h.waits c.spelled c.follows h.ends c.fit c.front c.got_so c.sent_so

  -- where it isn't
  out_keeps : (st : State) → IsOut st → Was st → KeepsAt st
  out_keeps st out was =
      let deaf = out.back wide theirs mine held (octet ∷ hand) e.flight other.session.standing.state other.sent e.got was.to_this in
      record {
        actions = [];
        session = machine st held;
        does = ap (λ (b : Bool). settled (machine st (with_octet b held octet))) out.deaf ∙ rests (machine st held) (subst Waits (sym deaf.holds_none) (nothing_waits plain plain-are));
        sound = record {
          this = was.this;
          other = was.other;
          to_this = out.way wide theirs mine held hand e.flight other.session.standing.state other.sent e.got deaf;
          to_other = was.to_other;
          notes = was.notes;
        };
      }

  keeps_at : (st : State) → Was st → KeepsAt st
  keeps_at State.Idle was = out_keeps State.Idle idle_out was
  keeps_at State.Connect was = out_keeps State.Connect connect_out was
  keeps_at State.Active was = out_keeps State.Active active_out was
  keeps_at State.OpenSent was =
      up_keeps State.OpenSent WantsOpen refl (λ h is. is) (sent_hears wide mine theirs allowed side know e other notes running (octet ∷ hand) hand) was was.to_this
  keeps_at State.OpenConfirm was =
      up_keeps State.OpenConfirm WantsKeepalive refl (λ h is. is) (confirm_hears wide mine theirs allowed side know e other notes running (octet ∷ hand) hand) was was.to_this
  keeps_at State.Established was =
      up_keeps State.Established Runs refl (λ h is. is) (established_hears wide mine theirs allowed side know e other notes running (octet ∷ hand) hand) was was.to_this

-- ---- octets

module _ (wide : Bool) (mine theirs : Settings) (allowed : Note → Type 0) (side : Side) (know : Know mine theirs allowed side) where
  octet_keeps : (octet : ℕ) (hand : List ℕ) (p : Pair) → IsSound wide mine theirs allowed (octet ∷ hand) p → Keeps wide mine theirs allowed side hand octet p
  octet_keeps octet hand p was =
      keeps_at wide mine theirs allowed side know p.this p.other p.notes p.this.session.standing.running octet hand p.this.session.standing.state was

  -- octets in hand are fed, and others stay in hand
  pub octets_keep : (piece hand : List ℕ) (p : Pair) → IsSound wide mine theirs allowed (piece ++ hand) p → IsSound wide mine theirs allowed hand (fed side p piece)
  octets_keep [] hand p was = was
  octets_keep (octet ∷ later) hand p was =
      let k = octet_keeps octet (later ++ hand) p was in
      let q : Pair = all_acted side (with_machine p k.session) k.actions in
      subst (λ (r : Pair). IsSound wide mine theirs allowed hand r) (sym (octet_first side p octet later k.actions k.session k.does)) (octets_keep later hand q k.sound)
