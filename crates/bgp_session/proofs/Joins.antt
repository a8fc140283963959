-- A connection that is made: both ends get the event, and each has an OPEN in flight towards it.
use Rattle.bgp_session.proofs.Prelude.{◌≡◌, ℕ, Bool, true, false, List, [], ◌∷◌, ◌++◌, refl, sym, ap, subst, ◌∙◌, append-nil, Waits, nothing_waits, Settings}
use Rattle.bgp_session.proofs.Prelude.{Action, Event, State, Timers, Machine, own_octets, timers_behind, Timer, Side, End, with_session, towards, Note, Pair}
use Rattle.bgp_session.proofs.Prelude.{pair, told, seeks, joined_end}
use Rattle.bgp_machine.specs.declared.timer.TheConstants.{OPEN_HOLD_SECONDS}
use Rattle.bgp_session.proofs.Facts.{open_spelled}
use Rattle.bgp_session.proofs.Sayings.{SaidOpen, spelling, WantsOpen, WantsKeepalive}
use Rattle.bgp_session.proofs.Ways.{IsHearing}
use Rattle.bgp_session.proofs.Ends.{IsEnd, IsSound, IsOut, connect_out, active_out, in_state}
use Rattle.bgp_frame.specs.Kind.{plain}
use Rattle.bgp_frame.specs.steps.AreTypes.{plain-are}

-- ---- what each end does

abbrev opening_timers : Timers → Timers
opening_timers t = timers_behind (Action.Disarm Timer.Retry ∷ Action.SendOpen ∷ Action.Arm Timer.Hold OPEN_HOLD_SECONDS ∷ []) t

abbrev opened_session : Machine → Machine
opened_session x = record {
  settings = x.settings;
  standing = record { state = State.OpenSent; context = x.standing.context; peer = x.standing.peer; running = opening_timers x.standing.running };
  held = x.held;
}

-- it is in OpenSent
abbrev pub opened : End → End
opened e = with_session e (opened_session e.session)

seeker : (st : State) → seeks st ≡ true → (P : State → Type 0) → P State.Connect → P State.Active → P st
seeker State.Connect is P c a = c
seeker State.Active is P c a = a
seeker State.Idle is P c a = absurd (let not : false ≡ true = is in cc)
seeker State.OpenSent is P c a = absurd (let not : false ≡ true = is in cc)
seeker State.OpenConfirm is P c a = absurd (let not : false ≡ true = is in cc)
seeker State.Established is P c a = absurd (let not : false ≡ true = is in cc)

pub seeker_out : (st : State) → seeks st ≡ true → IsOut st
seeker_out st is = seeker st is (λ (x : State). IsOut x) connect_out active_out

pub connected : (side : Side) (p : Pair) → seeks p.this.session.standing.state ≡ true
    → told side p Event.Connected ≡ pair (opened p.this) (towards p.other (own_octets p.this.session.settings)) p.notes
connected side p is =
    seeker p.this.session.standing.state is
    (λ (st : State). told side (pair (in_state p.this st p.this.session.standing.running) p.other p.notes) Event.Connected
    ≡ pair (opened (in_state p.this st p.this.session.standing.running)) (towards p.other (own_octets p.this.session.settings)) p.notes)
    refl refl

-- ---- both ends in a new round

-- it is in OpenSent, and the other's OPEN is in flight towards it
abbrev pub begun_end : End → Settings → End
begun_end e other = towards (opened (joined_end e)) (own_octets other)

-- what is needed of an end that is joined
pub record CanJoin (mine theirs : Settings) (e : End) : Type 0 where
  pub end : IsEnd mine theirs e
  pub out : IsOut e.session.standing.state
  pub holds_none : e.session.held ≡ []

module _ (wide : Bool) where
  begun_is : (mine theirs : Settings) (e : End) (other : Settings) → CanJoin mine theirs e → IsEnd mine theirs (begun_end e other)
  begun_is mine theirs e other c = record {
    settings = c.end.settings;
    context = c.out.none mine theirs e.session.standing.context c.end.context;
    left = refl;
    none_gone = refl;
  }

  begun_hears : (mine theirs : Settings) (e : End) (other : Settings) → other ≡ theirs → CanJoin mine theirs e → IsHearing wide theirs mine WantsOpen e.session.held (own_octets other) State.OpenSent [] []
  begun_hears mine theirs e other is c = record {
    waits = subst Waits (sym c.holds_none) (nothing_waits plain plain-are);
    last = WantsKeepalive;
    ends = refl;
    coming = record {
      pending = SaidOpen ∷ [];
      spelled =
          ap (λ (h : List ℕ). h ++ own_octets other) c.holds_none
          ∙ ap own_octets is
          ∙ open_spelled theirs
          ∙ sym (append-nil (spelling theirs SaidOpen));
      follows = refl;
      fit = (tt, tt);
      front = [];
      got_so = refl;
      sent_so = refl;
    };
  }

  pub begun_sound : (mine theirs : Settings) (allowed : Note → Type 0) (this other : End) → CanJoin mine theirs this → CanJoin theirs mine other
      → IsSound wide mine theirs allowed [] (pair (begun_end this other.session.settings) (begun_end other this.session.settings) [])
  begun_sound mine theirs allowed this other t o = record {
    this = begun_is mine theirs this other.session.settings t;
    other = begun_is theirs mine other this.session.settings o;
    to_this = begun_hears mine theirs this other.session.settings o.end.settings t;
    to_other = begun_hears theirs mine other this.session.settings t.end.settings o;
    notes = tt;
  }
