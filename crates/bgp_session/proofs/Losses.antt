-- A connection that is lost: each end leaves, and what it received is a prefix of what was sent.
use Rattle.bgp_session.proofs.Prelude.{◌≡◌, ℕ, Bool, true, false, not, List, [], refl, sym, ◌∙◌, AllByRecursion, Settings, Event, State, Timers, listens}
use Rattle.bgp_session.proofs.Prelude.{PathInfo, Update, Side, IsFrontHeard, End, away, Note, Pair, pair, told}
use Rattle.bgp_session.proofs.Ways.{Goes}
use Rattle.bgp_session.proofs.Ends.{IsEnd, IsSound, IsOut, quietly, idle_out, connect_out, active_out, in_state, gone_to, idle_in}

-- ---- what remains where octets are lost

-- an end that has nothing in flight, and holds nothing where it accepts nothing
pub record IsCut (mine theirs : Settings) (e : End) : Type 0 where
  pub end : IsEnd mine theirs e
  pub none_flies : e.flight ≡ []
  pub deaf_holds_none : listens e.session.standing.state ≡ false → e.session.held ≡ []

-- an end that has left
pub record IsAway (mine theirs : Settings) (e : End) : Type 0 where
  pub end : IsEnd mine theirs e
  pub out : IsOut e.session.standing.state
  pub none_flies : e.flight ≡ []
  pub holds_none : e.session.held ≡ []

-- an end leaves, and all else is unchanged
pub record Leaves (mine theirs : Settings) (p q : Pair) : Type 0 where
  pub away : IsAway mine theirs q.this
  pub sent : q.this.sent ≡ p.this.sent
  pub got : q.this.got ≡ p.this.got
  pub other : q.other ≡ p.other
  pub notes : q.notes ≡ p.notes

-- where a connection is up for the end, it gets the event that it failed
abbrev pub told_if : Bool → Side → Pair → Pair
told_if true side p = told side p Event.Failed
told_if false side p = p

module _ (mine theirs : Settings) (side : Side) (e other : End) (notes : List Note) (running : Timers) where
  abbrev before : State → Pair
  before st = pair (in_state e st running) other notes

  abbrev Was : State → Type 0
  Was st = IsCut mine theirs (in_state e st running)

  -- it has left before
  stays_away : (st : State) → IsOut st → Was st → Leaves mine theirs (before st) (before st)
  stays_away st out c = record {
    away = record { end = c.end; out = out; none_flies = c.none_flies; holds_none = c.deaf_holds_none out.deaf };
    sent = refl;
    got = refl;
    other = refl;
    notes = refl;
  }

  -- it leaves
  goes_away : (st : State) → Was st → (now : Timers) → Leaves mine theirs (before st) (pair (gone_to e State.Idle now) other notes)
  goes_away st c now = record {
    away = record {
      end = record { settings = c.end.settings; context = refl; left = refl; none_gone = c.end.none_gone };
      out = idle_out;
      none_flies = refl;
      holds_none = refl;
    };
    sent = refl;
    got = refl;
    other = refl;
    notes = refl;
  }

  -- it seeks another connection
  seeks_on : Was State.OpenSent → (now : Timers) → Leaves mine theirs (before State.OpenSent) (pair (away (idle_in e State.Active now)) other notes)
  seeks_on c now = record {
    away = record {
      end = record { settings = c.end.settings; context = c.end.context; left = refl; none_gone = c.end.none_gone };
      out = active_out;
      none_flies = refl;
      holds_none = refl;
    };
    sent = refl;
    got = refl;
    other = refl;
    notes = refl;
  }

  leaves_at : (st : State) → Was st → Leaves mine theirs (before st) (told_if (listens st) side (before st))
  leaves_at State.Idle c = stays_away State.Idle idle_out c
  leaves_at State.Connect c = stays_away State.Connect connect_out c
  leaves_at State.Active c = stays_away State.Active active_out c
  leaves_at State.OpenSent c = seeks_on c _
  leaves_at State.OpenConfirm c = quietly side (Leaves mine theirs (before State.OpenConfirm)) running State.OpenConfirm _ (goes_away State.OpenConfirm c _)
  leaves_at State.Established c = quietly side (Leaves mine theirs (before State.Established)) running State.Established _ (goes_away State.Established c _)

pub fails_away : (mine theirs : Settings) (side : Side) (p : Pair) → IsCut mine theirs p.this → Leaves mine theirs p (told_if (listens p.this.session.standing.state) side p)
fails_away mine theirs side p c = leaves_at mine theirs side p.this p.other p.notes p.this.session.standing.running p.this.session.standing.state c

-- ---- both are away

pub both_away : (wide : Bool) (mine theirs : Settings) (allowed : Note → Type 0) (this other : End) (notes : List Note) → IsAway mine theirs this → IsAway theirs mine other
    → IsFrontHeard wide other.sent this.got → IsFrontHeard wide this.sent other.got → AllByRecursion allowed notes → IsSound wide mine theirs allowed [] (pair this other notes)
both_away wide mine theirs allowed this other notes t o to_this to_other all = record {
  this = t.end;
  other = o.end;
  to_this =
      t.out.way wide theirs mine this.session.held [] this.flight other.session.standing.state other.sent this.got
      (record { holds_none = t.holds_none; none_flies = t.none_flies; hears = to_this });
  to_other =
      o.out.way wide mine theirs other.session.held [] other.flight this.session.standing.state this.sent other.got
      (record { holds_none = o.holds_none; none_flies = o.none_flies; hears = to_other });
  notes = all;
}

-- ---- octets in hand

-- an end that accepts nothing holds nothing
pub deaf_holds : (wide : Bool) (s t : Settings) (st : State) (held hand flight : List ℕ) (sender : State) (sent : List Update) (got : List (Update × PathInfo))
    → Goes wide s t st held hand flight sender sent got → listens st ≡ false → held ≡ []
deaf_holds wide s t State.Idle held hand flight sender sent got g is = g.holds_none
deaf_holds wide s t State.Connect held hand flight sender sent got g is = g.holds_none
deaf_holds wide s t State.Active held hand flight sender sent got g is = g.holds_none
deaf_holds wide s t State.OpenSent held hand flight sender sent got g is = absurd (let not : true ≡ false = is in cc)
deaf_holds wide s t State.OpenConfirm held hand flight sender sent got g is = absurd (let not : true ≡ false = is in cc)
deaf_holds wide s t State.Established held hand flight sender sent got g is = absurd (let not : true ≡ false = is in cc)

-- and what is in hand doesn't matter to it
drops : (wide : Bool) (s t : Settings) (st : State) (held hand flight : List ℕ) (sender : State) (sent : List Update) (got : List (Update × PathInfo))
    → Goes wide s t st held hand flight sender sent got → not (listens st) ≡ true → Goes wide s t st held [] flight sender sent got
drops wide s t State.Idle held hand flight sender sent got g is = g
drops wide s t State.Connect held hand flight sender sent got g is = g
drops wide s t State.Active held hand flight sender sent got g is = g
drops wide s t State.OpenSent held hand flight sender sent got g is = absurd (let not : false ≡ true = is in cc)
drops wide s t State.OpenConfirm held hand flight sender sent got g is = absurd (let not : false ≡ true = is in cc)
drops wide s t State.Established held hand flight sender sent got g is = absurd (let not : false ≡ true = is in cc)

pub drops_hand : (wide : Bool) (mine theirs : Settings) (allowed : Note → Type 0) (hand : List ℕ) (p : Pair) → IsSound wide mine theirs allowed hand p → p.this.left ≡ true
    → IsSound wide mine theirs allowed [] p
drops_hand wide mine theirs allowed hand p s is = record {
  this = s.this;
  other = s.other;
  to_this =
      drops wide theirs mine p.this.session.standing.state p.this.session.held hand p.this.flight p.other.session.standing.state p.other.sent p.this.got s.to_this (sym s.this.left ∙ is);
  to_other = s.to_other;
  notes = s.notes;
}
