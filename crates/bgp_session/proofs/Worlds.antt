-- Each move keeps the invariant of two ends.
use Rattle.bgp_session.proofs.Prelude.{◌≡◌, ℕ, zero, suc, ◌≤◌, Bool, true, false, List, [], ◌∷◌, ◌++◌, length, take, drop, Option, None, Some, Ok, refl, sym}
use Rattle.bgp_session.proofs.Prelude.{ap, subst, ◌∙◌, arith, if◌then◌else◌, AllByRecursion, drop-nil, take-append-drop, length-take, length-drop, all_push}
use Rattle.bgp_session.proofs.Prelude.{Context, agreement, Settings, own_of, Event, SendFault, State, refusal_of, own_octets, listens, PathInfo, Update}
use Rattle.bgp_session.proofs.Prelude.{HasUpdateRanges, Move, Round, Side, A, B, IsFrontHeard, HearsFronts, HasRangesUnless, SendsRanges, AllSendRanges, End}
use Rattle.bgp_session.proofs.Prelude.{with_flight, towards, Note, Pair, pair, told, sent, World, begins, end_of, seen_by, with_pair, tells, feeds, stands}
use Rattle.bgp_session.proofs.Prelude.{tells_if, state_of, fails_up, emptied, lost_if, lost, seeks, round_of, with_round, rounds_of, new_round, ran}
use Rattle.bgp_session.proofs.Prelude.{answer_of, later_of, can_join, joins, joined_if, delivers_on, delivered, drawn, delivers, sent_or, moved, all_moved}
use Rattle.bgp_session.proofs.Sayings.{WantsOpen, WantsKeepalive, Runs}
use Rattle.bgp_session.proofs.Ways.{IsHearing, Goes, front_of}
use Rattle.bgp_session.proofs.Ends.{IsEnd, IsSound, turned}
use Rattle.bgp_session.proofs.Events.{MayNote, event_keeps}
use Rattle.bgp_session.proofs.Hearings.{Know}
use Rattle.bgp_session.proofs.Octets.{octets_keep}
use Rattle.bgp_session.proofs.Sends.{sends_keep}
use Rattle.bgp_session.proofs.Losses.{IsAway, IsCut, Leaves, told_if, fails_away, both_away, deaf_holds, drops_hand}
use Rattle.bgp_session.proofs.Joins.{opened, connected, seeker_out, CanJoin, begun_sound}

-- ---- tests

none_stands : (p q : Bool) → (if p then (if q then false else true) else true) ≡ false → (p ≡ true) × (q ≡ true)
none_stands true true is = (refl, refl)
none_stands true false is = absurd (let not : true ≡ false = is in cc)
none_stands false q is = absurd (let not : true ≡ false = is in cc)

both_seek : (p q s : Bool) → (if p then (if q then (if s then false else true) else false) else false) ≡ true → (p ≡ true) × (q ≡ true)
both_seek true true s is = (refl, refl)
both_seek true false s is = absurd (let not : false ≡ true = is in cc)
both_seek false q s is = absurd (let not : false ≡ true = is in cc)

-- what is drawn out of the flight is in hand
draws : (wide : Bool) (s t : Settings) (st : State) (held flight : List ℕ) (k : ℕ) (sender : State) (sent_so : List Update) (got : List (Update × PathInfo))
    → Goes wide s t st held [] flight sender sent_so got → Goes wide s t st held (take k flight) (drop k flight) sender sent_so got
draws wide s t State.Idle held flight k sender sent_so got g = record { holds_none = g.holds_none; none_flies = ap (drop k) g.none_flies ∙ drop-nil k; hears = g.hears }
draws wide s t State.Connect held flight k sender sent_so got g = record { holds_none = g.holds_none; none_flies = ap (drop k) g.none_flies ∙ drop-nil k; hears = g.hears }
draws wide s t State.Active held flight k sender sent_so got g = record { holds_none = g.holds_none; none_flies = ap (drop k) g.none_flies ∙ drop-nil k; hears = g.hears }
draws wide s t State.OpenSent held flight k sender sent_so got g = subst (λ (rest : List ℕ). IsHearing wide s t WantsOpen held rest sender sent_so got) (sym (take-append-drop k flight)) g
draws wide s t State.OpenConfirm held flight k sender sent_so got g = subst (λ (rest : List ℕ). IsHearing wide s t WantsKeepalive held rest sender sent_so got) (sym (take-append-drop k flight)) g
draws wide s t State.Established held flight k sender sent_so got g = subst (λ (rest : List ℕ). IsHearing wide s t Runs held rest sender sent_so got) (sym (take-append-drop k flight)) g

draws_end : (mine theirs : Settings) (e : End) (flight : List ℕ) → IsEnd mine theirs e → IsEnd mine theirs (with_flight e flight)
draws_end mine theirs e flight is = record { settings = is.settings; context = is.context; left = is.left; none_gone = is.none_gone }

draws_pair : (wide : Bool) (mine theirs : Settings) (allowed : Note → Type 0) (p : Pair) (k : ℕ) → IsSound wide mine theirs allowed [] p
    → IsSound wide mine theirs allowed (take k p.this.flight) (pair (with_flight p.this (drop k p.this.flight)) p.other p.notes)
draws_pair wide mine theirs allowed p k s = record {
  this = draws_end mine theirs p.this (drop k p.this.flight) s.this;
  other = s.other;
  to_this = draws wide theirs mine p.this.session.standing.state p.this.session.held p.this.flight k p.other.session.standing.state p.other.sent p.this.got s.to_this;
  to_other = s.to_other;
  notes = s.notes;
}

-- the result of a round
pub record RoundKeeps (wide : Bool) (allowed : Note → Type 0) (round : Round) : Type 0 where
  pub hears : HearsFronts wide round
  pub notes : AllByRecursion allowed round.notes

-- what both ends know of each other
pub record BothKnow (wide : Bool) (a b : Settings) (allowed : Note → Type 0) : Type 0 where
  pub at_a : Know a b allowed A
  pub at_b : Know b a allowed B
  pub width_a : (c : Context) → agreement a (own_of b) ≡ Ok c → c.as4 ≡ wide
  pub width_b : (c : Context) → agreement b (own_of a) ≡ Ok c → c.as4 ≡ wide

module _ (wide : Bool) (a b : Settings) (allowed : Note → Type 0) (know : BothKnow wide a b allowed) where
  -- as each side sees it
  abbrev SoundPair : Side → List ℕ → Pair → Type 0
  SoundPair A hand p = IsSound wide a b allowed hand p
  SoundPair B hand p = IsSound wide b a allowed hand p

  abbrev SoundAt : Side → List ℕ → World → Type 0
  SoundAt side hand w = SoundPair side hand (seen_by side w)

  abbrev RoundsKeep : List Round → Type 0
  RoundsKeep rounds = AllByRecursion (RoundKeeps wide allowed) rounds

  pub record IsSoundWorld (w : World) : Type 0 where
    pub both : IsSound wide a b allowed [] (seen_by A w)
    pub over : RoundsKeep w.over

  seen : (side : Side) (w : World) → IsSound wide a b allowed [] (seen_by A w) → SoundAt side [] w
  seen A w s = s
  seen B w s = turned wide a b allowed w.a w.b w.notes s

  back : (side : Side) (w : World) (p : Pair) → SoundPair side [] p → RoundsKeep w.over → IsSoundWorld (with_pair side w p)
  back A w p s over = record { both = s; over = over }
  back B w p s over = record { both = turned wide b a allowed p.this p.other p.notes s; over = over }

  here : (side : Side) (w : World) → SoundAt side [] w → RoundsKeep w.over → IsSoundWorld w
  here A w s over = record { both = s; over = over }
  here B w s over = record { both = turned wide b a allowed w.b w.a w.notes s; over = over }

  -- ---- rounds

  round_keeps : (w : World) → IsSound wide a b allowed [] (seen_by A w) → RoundKeeps wide allowed (round_of w)
  round_keeps w s = record {
    hears = record {
      at_b = front_of wide a b w.b.session.standing.state w.b.session.held [] w.b.flight w.a.session.standing.state w.a.sent w.b.got s.to_other;
      at_a = front_of wide b a w.a.session.standing.state w.a.session.held [] w.a.flight w.b.session.standing.state w.b.sent w.a.got s.to_this;
      none_gone_a = s.this.none_gone;
      none_gone_b = s.other.none_gone;
    };
    notes = s.notes;
  }

  with_round_keeps : (begun : Bool) (over : List Round) (round : Round) → RoundsKeep over → RoundKeeps wide allowed round → RoundsKeep (with_round begun over round)
  with_round_keeps true over round all is = all_push (RoundKeeps wide allowed) over round all is
  with_round_keeps false over round all is = all

  pub rounds_keep : (w : World) → IsSoundWorld w → RoundsKeep (rounds_of w)
  rounds_keep w s = with_round_keeps w.begun w.over (round_of w) s.over (round_keeps w s.both)

  -- ---- events

  tells_pair : (side : Side) (e : Event) (w : World) → MayNote allowed side e → SoundAt side [] w → SoundPair side [] (told side (seen_by side w) e)
  tells_pair A e w may s = event_keeps wide a b allowed A [] (seen_by A w) e s may
  tells_pair B e w may s = event_keeps wide b a allowed B [] (seen_by B w) e s may

  tells_keep : (side : Side) (e : Event) (w : World) → MayNote allowed side e → IsSoundWorld w → IsSoundWorld (tells side e w)
  tells_keep side e w may s = back side w (told side (seen_by side w) e) (tells_pair side e w may (seen side w s.both)) s.over

  fails_keep : (on : Bool) (side : Side) (w : World) → IsSoundWorld w → IsSoundWorld (tells_if on side Event.Failed w)
  fails_keep true side w s = tells_keep side Event.Failed w tt s
  fails_keep false side w s = s

  -- ---- a loss

  record IsLoose (w : World) : Type 0 where
    a_end : IsEnd a b w.a
    b_end : IsEnd b a w.b
    a_deaf : listens w.a.session.standing.state ≡ false → w.a.session.held ≡ []
    b_deaf : listens w.b.session.standing.state ≡ false → w.b.session.held ≡ []
    a_hears : IsFrontHeard wide w.b.sent w.a.got
    b_hears : IsFrontHeard wide w.a.sent w.b.got
    notes : AllByRecursion allowed w.notes

  loosens : (side : Side) (hand : List ℕ) (w : World) → SoundAt side hand w → IsLoose w
  loosens A hand w s = record {
    a_end = s.this;
    b_end = s.other;
    a_deaf = deaf_holds wide b a w.a.session.standing.state w.a.session.held hand w.a.flight w.b.session.standing.state w.b.sent w.a.got s.to_this;
    b_deaf = deaf_holds wide a b w.b.session.standing.state w.b.session.held [] w.b.flight w.a.session.standing.state w.a.sent w.b.got s.to_other;
    a_hears = front_of wide b a w.a.session.standing.state w.a.session.held hand w.a.flight w.b.session.standing.state w.b.sent w.a.got s.to_this;
    b_hears = front_of wide a b w.b.session.standing.state w.b.session.held [] w.b.flight w.a.session.standing.state w.a.sent w.b.got s.to_other;
    notes = s.notes;
  }
  loosens B hand w s = record {
    a_end = s.other;
    b_end = s.this;
    a_deaf = deaf_holds wide b a w.a.session.standing.state w.a.session.held [] w.a.flight w.b.session.standing.state w.b.sent w.a.got s.to_other;
    b_deaf = deaf_holds wide a b w.b.session.standing.state w.b.session.held hand w.b.flight w.a.session.standing.state w.a.sent w.b.got s.to_this;
    a_hears = front_of wide b a w.a.session.standing.state w.a.session.held [] w.a.flight w.b.session.standing.state w.b.sent w.a.got s.to_other;
    b_hears = front_of wide a b w.b.session.standing.state w.b.session.held hand w.b.flight w.a.session.standing.state w.a.sent w.b.got s.to_this;
    notes = s.notes;
  }

  fails_as : (side : Side) (on : Bool) (w : World) → tells_if on side Event.Failed w ≡ with_pair side w (told_if on side (seen_by side w))
  fails_as A true w = refl
  fails_as A false w = refl
  fails_as B true w = refl
  fails_as B false w = refl

  module _ (w : World) (l : IsLoose w) (over : RoundsKeep w.over) where
    abbrev cut : World
    cut = emptied w

    abbrev first : Pair
    first = told_if (listens (state_of A cut)) A (seen_by A cut)

    abbrev one_left : World
    one_left = with_pair A cut first

    abbrev second : Pair
    second = told_if (listens (state_of B one_left)) B (seen_by B one_left)

    a_leaves : Leaves a b (seen_by A cut) first
    a_leaves = fails_away a b A (seen_by A cut) (record { end = draws_end a b w.a [] l.a_end; none_flies = refl; deaf_holds_none = l.a_deaf })

    b_leaves : Leaves b a (seen_by B one_left) second
    b_leaves =
        fails_away b a B (seen_by B one_left)
        (subst (λ (e : End). IsCut b a e) (sym a_leaves.other) (record { end = draws_end b a w.b [] l.b_end; none_flies = refl; deaf_holds_none = l.b_deaf }))

    abbrev both_left : World
    both_left = with_pair B one_left second

    left_sound : IsSound wide a b allowed [] (seen_by A both_left)
    left_sound =
        let a_is : second.other ≡ first.this = b_leaves.other in
        let b_sent : second.this.sent ≡ w.b.sent = b_leaves.sent ∙ ap (λ (e : End). e.sent) a_leaves.other in
        let b_got : second.this.got ≡ w.b.got = b_leaves.got ∙ ap (λ (e : End). e.got) a_leaves.other in
        let a_sent : second.other.sent ≡ w.a.sent = ap (λ (e : End). e.sent) a_is ∙ a_leaves.sent in
        let a_got : second.other.got ≡ w.a.got = ap (λ (e : End). e.got) a_is ∙ a_leaves.got in
        both_away wide a b allowed second.other second.this second.notes (subst (λ (e : End). IsAway a b e) (sym a_is) a_leaves.away) b_leaves.away
        (subst (λ (sends_so : List Update). IsFrontHeard wide sends_so second.other.got) (sym b_sent) (subst (λ (gets : List (Update × PathInfo)). IsFrontHeard wide w.b.sent gets) (sym a_got) l.a_hears))
        (subst (λ (sends_so : List Update). IsFrontHeard wide sends_so second.this.got) (sym a_sent) (subst (λ (gets : List (Update × PathInfo)). IsFrontHeard wide w.a.sent gets) (sym b_got) l.b_hears))
        (subst (λ (ns : List Note). AllByRecursion allowed ns) (sym (b_leaves.notes ∙ a_leaves.notes)) l.notes)

    lost_is : lost_if true w ≡ both_left
    lost_is = ap (fails_up B) (fails_as A (listens (state_of A cut)) cut) ∙ fails_as B (listens (state_of B one_left)) one_left

    all_lost : IsSoundWorld (lost_if true w)
    all_lost = subst (λ (v : World). IsSoundWorld v) (sym lost_is) (record { both = left_sound; over = over })

  -- what is in hand doesn't matter to a side that has left
  drops_at : (side : Side) (hand : List ℕ) (w : World) → SoundAt side hand w → (end_of side w).left ≡ true → SoundAt side [] w
  drops_at A hand w s is = drops_hand wide a b allowed hand (seen_by A w) s is
  drops_at B hand w s is = drops_hand wide b a allowed hand (seen_by B w) s is

  has_left : (side : Side) (w : World) → (w.a.left ≡ true) × (w.b.left ≡ true) → (end_of side w).left ≡ true
  has_left A w is = is.0
  has_left B w is = is.1

  lost_by : (on : Bool) (side : Side) (hand : List ℕ) (w : World) → stands w ≡ on → SoundAt side hand w → RoundsKeep w.over → IsSoundWorld (lost_if on w)
  lost_by true side hand w is s over = all_lost w (loosens side hand w s) over
  lost_by false side hand w is s over = here side w (drops_at side hand w s (has_left side w (none_stands w.a.left w.b.left is))) over

  lost_keeps : (side : Side) (hand : List ℕ) (w : World) → SoundAt side hand w → RoundsKeep w.over → IsSoundWorld (lost w)
  lost_keeps side hand w s over = lost_by (stands w) side hand w refl s over

  -- ---- a delivery

  feeds_keep : (side : Side) (piece hand : List ℕ) (w : World) → SoundAt side (piece ++ hand) w → SoundAt side hand (feeds side piece w)
  feeds_keep A piece hand w s = octets_keep wide a b allowed A know.at_a piece hand (seen_by A w) s
  feeds_keep B piece hand w s = octets_keep wide b a allowed B know.at_b piece hand (seen_by B w) s

  feeds_over : (side : Side) (piece : List ℕ) (w : World) → RoundsKeep w.over → RoundsKeep (feeds side piece w).over
  feeds_over A piece w over = over
  feeds_over B piece w over = over

  abbrev Later : ℕ → Type 0
  Later n = (side : Side) (octets : List ℕ) (w : World) (answers : List Bool) → length octets ≤ n → SoundAt side octets w → RoundsKeep w.over → IsSoundWorld (delivered n side octets w answers).world

  module _ (n : ℕ) (later : Later n) (side : Side) (octets : List ℕ) (w : World) (answers : List Bool) (within : length octets ≤ suc n) (some : length octets ≡ 0 → ⊥) (s : SoundAt side octets w) (over : RoundsKeep w.over) where
    passes : (answer : Bool) → IsSoundWorld (delivers_on answer (delivered n side (drop 4096 octets)) side (take 4096 octets) w (later_of answers)).world
    passes true =
        let rest = length-drop 4096 octets in
        later side (drop 4096 octets) (feeds side (take 4096 octets) w) (later_of answers) (omega arith)
        (feeds_keep side (take 4096 octets) (drop 4096 octets) w (subst (λ (l : List ℕ). SoundAt side l w) (sym (take-append-drop 4096 octets)) s)) (feeds_over side (take 4096 octets) w over)
    passes false = lost_keeps side octets w s over

    by_left : (left : Bool) → (end_of side w).left ≡ left
        → IsSoundWorld (if left then ran w answers else delivers_on (answer_of answers) (delivered n side (drop 4096 octets)) side (take 4096 octets) w (later_of answers)).world
    by_left true is = here side w (drops_at side octets w s is) over
    by_left false is = passes (answer_of answers)

  delivered_keeps : (n : ℕ) → Later n
  delivered_keeps zero side [] w answers within s over = here side w s over
  delivered_keeps zero side (octet ∷ octets) w answers within s over = absurd (omega arith)
  delivered_keeps (suc n) side [] w answers within s over = here side w s over
  delivered_keeps (suc n) side (octet ∷ octets) w answers within s over =
      by_left n (delivered_keeps n) side (octet ∷ octets) w answers within (λ (none : length (octet ∷ octets) ≡ 0). omega arith) s over (end_of side w).left refl

  drawn_at : (side : Side) (k : ℕ) (w : World) → IsSound wide a b allowed [] (seen_by A w) → SoundAt side (take k (end_of side w).flight) (drawn side k w)
  drawn_at A k w s = draws_pair wide a b allowed (seen_by A w) k s
  drawn_at B k w s = draws_pair wide b a allowed (seen_by B w) k (seen B w s)

  drawn_over : (side : Side) (k : ℕ) (w : World) → RoundsKeep w.over → RoundsKeep (drawn side k w).over
  drawn_over A k w over = over
  drawn_over B k w over = over

  delivers_keep : (side : Side) (k : ℕ) (w : World) (answers : List Bool) → IsSoundWorld w → IsSoundWorld (delivers side k w answers).world
  delivers_keep side k w answers s =
      let count = length-take k (end_of side w).flight in
      delivered_keeps k side (take k (end_of side w).flight) (drawn side k w) answers (omega arith) (drawn_at side k w s.both) (drawn_over side k w s.over)

  -- ---- a connection

  joinable : (w : World) → IsSoundWorld w → seeks w.a.session.standing.state ≡ true → seeks w.b.session.standing.state ≡ true → (CanJoin a b w.a) × (CanJoin b a w.b)
  joinable w s a_seeks b_seeks =
      let a_out = seeker_out w.a.session.standing.state a_seeks in
      let b_out = seeker_out w.b.session.standing.state b_seeks in
      let a_way = a_out.back wide b a w.a.session.held [] w.a.flight w.b.session.standing.state w.b.sent w.a.got s.both.to_this in
      let b_way = b_out.back wide a b w.b.session.held [] w.b.flight w.a.session.standing.state w.a.sent w.b.got s.both.to_other in
      (record { end = s.both.this; out = a_out; holds_none = a_way.holds_none }, record { end = s.both.other; out = b_out; holds_none = b_way.holds_none })

  module _ (w : World) (s : IsSoundWorld w) (a_seeks : seeks w.a.session.standing.state ≡ true) (b_seeks : seeks w.b.session.standing.state ≡ true) where
    abbrev new : World
    new = new_round w

    abbrev a_first : World
    a_first = with_pair A new (pair (opened new.a) (towards new.b (own_octets new.a.session.settings)) new.notes)

    abbrev joined_world : World
    joined_world = with_pair B a_first (pair (opened a_first.b) (towards a_first.a (own_octets a_first.b.session.settings)) a_first.notes)

    joins_is : joins true w ≡ joined_world
    joins_is =
        ap (λ (p : Pair). tells B Event.Connected (with_pair A new p)) (connected A (seen_by A new) a_seeks)
        ∙ ap (with_pair B a_first) (connected B (seen_by B a_first) b_seeks)

    joins_keep : (answer : Bool) → IsSoundWorld (joins answer w)
    joins_keep true =
        let can = joinable w s a_seeks b_seeks in
        subst (λ (v : World). IsSoundWorld v) (sym joins_is) (record { both = begun_sound wide a b allowed w.a w.b can.0 can.1; over = rounds_keep w s })
    joins_keep false = tells_keep B Event.Failed (tells A Event.Failed w) tt (tells_keep A Event.Failed w tt s)

  joined_keeps : (can : Bool) (w : World) (answers : List Bool) → can_join w ≡ can → IsSoundWorld w → IsSoundWorld (joined_if can w answers).world
  joined_keeps true w answers is s =
      let seek = both_seek (seeks w.a.session.standing.state) (seeks w.b.session.standing.state) (stands w) is in
      joins_keep w s seek.0 seek.1 (answer_of answers)
  joined_keeps false w answers is s = s

  -- ---- sending

  sends_pair : (side : Side) (w : World) (u : Update) → HasUpdateRanges u → SoundAt side [] w → refusal_of (end_of side w).session u ≡ None → SoundPair side [] (sent (seen_by side w) u)
  sends_pair A w u ranges s none = sends_keep wide a b allowed know.width_a [] (seen_by A w) u ranges s none
  sends_pair B w u ranges s none = sends_keep wide b a allowed know.width_b [] (seen_by B w) u ranges s none

  sent_keeps : (refusal : Option SendFault) (side : Side) (u : Update) (w : World) → refusal_of (end_of side w).session u ≡ refusal → HasRangesUnless refusal u → IsSoundWorld w
      → IsSoundWorld (sent_or refusal side u w)
  sent_keeps None side u w is ranges s = back side w (sent (seen_by side w) u) (sends_pair side w u ranges (seen side w s.both) is) s.over
  sent_keeps (Some fault) side u w is ranges s = record { both = s.both; over = s.over }

  -- ---- each move

  -- what a move needs: its notes are allowed
  abbrev pub Permits : Move → Type 0
  Permits (Move.Stop side) = MayNote allowed side Event.Stop
  Permits (Move.Expire side timer) = MayNote allowed side (Event.Expired timer)
  Permits _ = Unit {0}

  moved_keeps : (one : Move) (w : World) (answers : List Bool) → Permits one → SendsRanges w one → IsSoundWorld w → IsSoundWorld (moved one w answers).world
  moved_keeps (Move.Start side) w answers may ranges s = tells_keep side Event.Start w tt s
  moved_keeps (Move.Stop side) w answers may ranges s = tells_keep side Event.Stop w may s
  moved_keeps Move.Join w answers may ranges s = joined_keeps (can_join w) w answers refl s
  moved_keeps (Move.Refuse side) w answers may ranges s = fails_keep (seeks (state_of side w)) side w s
  moved_keeps (Move.Deliver side k) w answers may ranges s = delivers_keep side k w answers s
  moved_keeps Move.Lose w answers may ranges s = lost_keeps A [] w s.both s.over
  moved_keeps (Move.Expire side timer) w answers may ranges s = tells_keep side (Event.Expired timer) w may s
  moved_keeps (Move.Send side u) w answers may ranges s = sent_keeps (refusal_of (end_of side w).session u) side u w refl ranges s

  pub all_moved_keep : (moves : List Move) (w : World) (answers : List Bool) → AllByRecursion Permits moves → AllSendRanges moves w answers → IsSoundWorld w
      → IsSoundWorld (all_moved moves w answers).world
  all_moved_keep [] w answers may ranges s = s
  all_moved_keep (one ∷ later) w answers may ranges s =
      all_moved_keep later (moved one w answers).world (moved one w answers).answers may.1 ranges.1 (moved_keeps one w answers may.0 ranges.0 s)

  pub begins_sound : IsSoundWorld (begins a b)
  begins_sound = record {
    both = record {
      this = record { settings = refl; context = refl; left = refl; none_gone = refl };
      other = record { settings = refl; context = refl; left = refl; none_gone = refl };
      to_this = record { holds_none = refl; none_flies = refl; hears = record { front = []; later = []; in_order = refl; hears = refl } };
      to_other = record { holds_none = refl; none_flies = refl; hears = record { front = []; later = []; in_order = refl; hears = refl } };
      notes = tt;
    };
    over = tt;
  }
