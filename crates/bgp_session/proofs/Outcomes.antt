-- Outcomes of all moves: the laws follow from the invariant.
use Rattle.bgp_session.proofs.Prelude.{◌≡◌, ℕ, Bool, true, false, not, List, [], ◌∷◌, ◌++◌, map, Option, None, Some, Ok, refl, sym, ap, ◌∙◌, inl, inr}
use Rattle.bgp_session.proofs.Prelude.{AllByRecursion, Contains, All, append-nil, Waits, Context, agreement, Settings, own_of, both_agree, State, listens}
use Rattle.bgp_session.proofs.Prelude.{Timer, PathInfo, Update, Move, Round, Side, A, B, CanBeSet, HaveSentRanges, world_behind, context_at, BothAgree}
use Rattle.bgp_session.proofs.Prelude.{NoteHasReason, RoundHasReasons, both_wide, heard, HearsFronts, HeardAll, Note, World, begins, end_of, round_of}
use Rattle.bgp_session.proofs.Prelude.{with_round, rounds_of}
use Rattle.std.proofs.lemmas.List.Elements.{All-contains_itself, All-from_recursion, recursion_from_All}
use Rattle.bgp_session.proofs.Agreements.{agreed_width, wide_swaps, refused_for}
use Rattle.bgp_session.proofs.Begun.{begun_behind}
use Rattle.bgp_session.proofs.Ends.{HasContext}
use Rattle.bgp_session.proofs.Facts.{spelled_frame}
use Rattle.bgp_session.proofs.Hearings.{Know}
use Rattle.bgp_session.proofs.Sayings.{Said, message_of, spelling, spellings, updates_in, Fits, Stage, WantsOpen, WantsKeepalive, Runs}
use Rattle.bgp_session.proofs.Streams.{no_frame}
use Rattle.bgp_session.proofs.Ways.{IsHearing, Goes}
use Rattle.bgp_session.proofs.Worlds.{RoundKeeps, BothKnow, IsSoundWorld, rounds_keep, Permits, all_moved_keep, begins_sound}

module _ (a b : Settings) (moves : List Move) (answers : List Bool) (can_a : CanBeSet a) (can_b : CanBeSet b) (ranges : HaveSentRanges a b moves answers) where
  abbrev allowed : Note → Type 0
  allowed n = NoteHasReason a b moves n

  -- ---- what is known beforehand

  know_a : Know a b allowed A
  know_a = record { can = can_b; agree = λ x y is_x is_y. both_agree a b x y can_a.allowed can_b.allowed is_x is_y; refuses = refused_for A moves a b can_b }

  know_b : Know b a allowed B
  know_b = record { can = can_a; agree = λ x y is_x is_y. both_agree b a x y can_b.allowed can_a.allowed is_x is_y; refuses = refused_for B moves b a can_a }

  know : BothKnow (both_wide a b) a b allowed
  know = record { at_a = know_a; at_b = know_b; width_a = agreed_width a b; width_b = λ c is. agreed_width b a c is ∙ sym (wide_swaps a b) }

  abbrev May : Move → Type 0
  May one = Permits (both_wide a b) a b allowed know one

  may : (one : Move) → Contains moves one → May one
  may (Move.Start side) is = tt
  may (Move.Stop side) is = inr (inr (inr (record { code_is = refl; subcode_is = refl; stops = is })))
  may Move.Join is = tt
  may (Move.Refuse side) is = tt
  may (Move.Deliver side k) is = tt
  may Move.Lose is = tt
  may (Move.Expire side Timer.Hold) is = inr (inr (inl (record { code_is = refl; subcode_is = refl; expires = is })))
  may (Move.Expire side Timer.Retry) is = tt
  may (Move.Expire side Timer.Keepalive) is = tt
  may (Move.Send side u) is = tt

  all_may : (later : List Move) → AllByRecursion (Contains moves) later → AllByRecursion May later
  all_may [] are = tt
  all_may (one ∷ later) are = (may one are.0, all_may later are.1)

  abbrev world : World
  world = world_behind a b moves answers

  world_sound : IsSoundWorld (both_wide a b) a b allowed know world
  world_sound =
      all_moved_keep (both_wide a b) a b allowed know moves (begins a b) answers
      (all_may moves (recursion_from_All (Contains moves) moves (All-contains_itself moves))) ranges
      (begins_sound (both_wide a b) a b allowed know)

  -- ---- both agree

  agreed_by : (mine theirs : Settings) (st : State) (o : Option Context) (ctx : Context) → HasContext mine theirs st o → o ≡ Some ctx → agreement mine (own_of theirs) ≡ Ok ctx
  agreed_by mine theirs State.OpenConfirm o ctx has is = let same : Some has.agreed ≡ Some ctx = sym has.is ∙ is in let one : has.agreed ≡ ctx = cc in has.both ∙ ap (λ (c : Context). Ok c) one
  agreed_by mine theirs State.Established o ctx has is = let same : Some has.agreed ≡ Some ctx = sym has.is ∙ is in let one : has.agreed ≡ ctx = cc in has.both ∙ ap (λ (c : Context). Ok c) one
  agreed_by mine theirs State.Idle o ctx has is = absurd (let not : None ≡ Some ctx = sym has ∙ is in cc)
  agreed_by mine theirs State.Connect o ctx has is = absurd (let not : None ≡ Some ctx = sym has ∙ is in cc)
  agreed_by mine theirs State.Active o ctx has is = absurd (let not : None ≡ Some ctx = sym has ∙ is in cc)
  agreed_by mine theirs State.OpenSent o ctx has is = absurd (let not : None ≡ Some ctx = sym has ∙ is in cc)

  pub agrees : BothAgree a b world
  agrees =
      let s = world_sound.both in
      let by_a : (ctx : Context) → context_at A world ≡ Some ctx → agreement a (own_of b) ≡ Ok ctx =
      λ ctx is. agreed_by a b world.a.session.standing.state world.a.session.standing.context ctx s.this.context is in
      let by_b : (ctx : Context) → context_at B world ≡ Some ctx → agreement b (own_of a) ≡ Ok ctx =
      λ ctx is. agreed_by b a world.b.session.standing.state world.b.session.standing.context ctx s.other.context is in
      record { at_a = by_a; at_b = by_b; same = λ x y is_x is_y. both_agree a b x y can_a.allowed can_b.allowed (by_a x is_x) (by_b y is_y) }

  -- ---- rounds

  rounds_have : (rounds : List Round) → AllByRecursion (RoundKeeps (both_wide a b) allowed) rounds → AllByRecursion (RoundHasReasons a b moves) rounds
  rounds_have [] all = tt
  rounds_have (round ∷ later) all = (All-from_recursion allowed round.notes all.0.notes, rounds_have later all.1)

  pub reasons : All (RoundHasReasons a b moves) (rounds_of world)
  reasons = All-from_recursion (RoundHasReasons a b moves) (rounds_of world) (rounds_have (rounds_of world) (rounds_keep (both_wide a b) a b allowed know world world_sound))

  rounds_hear : (rounds : List Round) → AllByRecursion (RoundKeeps (both_wide a b) allowed) rounds → AllByRecursion (HearsFronts (both_wide a b)) rounds
  rounds_hear [] all = tt
  rounds_hear (round ∷ later) all = (all.0.hears, rounds_hear later all.1)

  pub fronts : All (HearsFronts (both_wide a b)) (rounds_of world)
  fronts = All-from_recursion (HearsFronts (both_wide a b)) (rounds_of world) (rounds_hear (rounds_of world) (rounds_keep (both_wide a b) a b allowed know world world_sound))

  -- ---- all is received

  -- nothing is pending where nothing is in flight
  none_pending : (s t : Settings) → CanBeSet s → (held : List ℕ) (pending : List Said) → AllByRecursion (Fits (both_wide a b) s t) pending → Waits held → held ≡ spellings s pending → pending ≡ []
  none_pending s t can held [] fit waits is = refl
  none_pending s t can held (m ∷ later) fit waits is =
      absurd (no_frame (message_of s m) held (spelling s m) (spellings s later) waits (spelled_frame (both_wide a b) s t can m fit.0) is)

  hearing_all : (s t : Settings) → CanBeSet s → (from : Stage) (held flight : List ℕ) (sender : State) (sent : List Update) (got : List (Update × PathInfo)) → flight ≡ []
      → IsHearing (both_wide a b) s t from held flight sender sent got → got ≡ map (heard (both_wide a b)) sent
  hearing_all s t can from held flight sender sent got none h =
      let c = h.coming in
      let nothing = none_pending s t can held c.pending c.fit h.waits (sym (append-nil held) ∙ ap (λ (f : List ℕ). held ++ f) (sym none) ∙ c.spelled) in
      let all : sent ≡ c.front = c.sent_so ∙ ap (λ (ms : List Said). c.front ++ updates_in ms) nothing ∙ append-nil c.front in
      c.got_so ∙ ap (map (heard (both_wide a b))) (sym all)

  goes_all : (s t : Settings) → CanBeSet s → (st : State) (held flight : List ℕ) (sender : State) (sent : List Update) (got : List (Update × PathInfo)) (left : Bool) → left ≡ not (listens st) → left ≡ false
      → flight ≡ [] → Goes (both_wide a b) s t st held [] flight sender sent got → got ≡ map (heard (both_wide a b)) sent
  goes_all s t can State.OpenSent held flight sender sent got left is stays none g = hearing_all s t can WantsOpen held flight sender sent got none g
  goes_all s t can State.OpenConfirm held flight sender sent got left is stays none g = hearing_all s t can WantsKeepalive held flight sender sent got none g
  goes_all s t can State.Established held flight sender sent got left is stays none g = hearing_all s t can Runs held flight sender sent got none g
  goes_all s t can State.Idle held flight sender sent got left is stays none g = absurd (let not : true ≡ false = sym is ∙ stays in cc)
  goes_all s t can State.Connect held flight sender sent got left is stays none g = absurd (let not : true ≡ false = sym is ∙ stays in cc)
  goes_all s t can State.Active held flight sender sent got left is stays none g = absurd (let not : true ≡ false = sym is ∙ stays in cc)

  last_round : (w : World) → w.begun ≡ true → rounds_of w ≡ w.over ++ round_of w ∷ []
  last_round w is = ap (λ (begun : Bool). with_round begun w.over (round_of w)) is

  pub all_heard : (side : Side) → (end_of side world).left ≡ false → (end_of side world).flight ≡ [] → HeardAll (both_wide a b) side world
  all_heard A stays none =
      let s = world_sound.both in
      record {
        earlier = world.over;
        last = round_of world;
        is_last = last_round world ((begun_behind a b moves answers).a stays);
        hears = goes_all b a can_b world.a.session.standing.state world.a.session.held world.a.flight world.b.session.standing.state world.b.sent world.a.got world.a.left s.this.left stays none s.to_this;
      }
  all_heard B stays none =
      let s = world_sound.both in
      record {
        earlier = world.over;
        last = round_of world;
        is_last = last_round world ((begun_behind a b moves answers).b stays);
        hears = goes_all a b can_a world.b.session.standing.state world.b.session.held world.b.flight world.a.session.standing.state world.a.sent world.b.got world.b.left s.other.left stays none s.to_other;
      }
