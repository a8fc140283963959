-- Where an end hasn't left, a round has begun.
use Rattle.bgp_session.proofs.Prelude.{◌≡◌, ℕ, zero, suc, Bool, true, false, List, [], ◌∷◌, take, drop, Option, None, Some, refl, ◌∙◌, if◌then◌else◌}
use Rattle.bgp_session.proofs.Prelude.{Settings, Action, Event, SendFault, by_octets, refusal_of, after_event, listens, happens, Update, Move, Side, A, B}
use Rattle.bgp_session.proofs.Prelude.{End, with_session, Pair, pair, acted, all_acted, before_event, told, fed, sent, World, begins, end_of, seen_by}
use Rattle.bgp_session.proofs.Prelude.{with_pair, tells, feeds, stands, tells_if, state_of, fails_up, emptied, lost_if, lost, seeks, refused_at, ran}
use Rattle.bgp_session.proofs.Prelude.{answer_of, later_of, can_join, joins, joined_if, delivers_on, delivered, drawn, delivers, sent_or, sends, moved}
use Rattle.bgp_session.proofs.Prelude.{all_moved}

-- an end that hasn't left after it hadn't left before it
pub record Stays (p q : Pair) : Type 0 where
  pub this : q.this.left ≡ false → p.this.left ≡ false
  pub other : q.other.left ≡ false → p.other.left ≡ false

same : (p : Pair) → Stays p p
same p = record { this = λ is. is; other = λ is. is }

both : (p q r : Pair) → Stays p q → Stays q r → Stays p r
both p q r first second = record { this = λ is. first.this (second.this is); other = λ is. first.other (second.other is) }

not_left : {P : Type 0} → true ≡ false → P
not_left is = absurd (let not : true ≡ false = is in cc)

acted_stays : (side : Side) (p : Pair) (a : Action) → Stays p (acted side p a)
acted_stays side p Action.Connect = same p
acted_stays side p Action.Close = record { this = λ is. not_left is; other = λ is. is }
acted_stays side p Action.SendOpen = record { this = λ is. is; other = λ is. is }
acted_stays side p Action.SendKeepalive = record { this = λ is. is; other = λ is. is }
acted_stays side p (Action.SendNotification why) = record { this = λ is. is; other = λ is. is }
acted_stays side p (Action.Arm timer seconds) = same p
acted_stays side p (Action.Disarm timer) = same p
acted_stays side p (Action.Announce u info) = record { this = λ is. is; other = λ is. is }
acted_stays side p (Action.Withdraw routes) = record { this = λ is. is; other = λ is. is }
acted_stays side p Action.Flush = same p

all_stay : (side : Side) (p : Pair) (actions : List Action) → Stays p (all_acted side p actions)
all_stay side p [] = same p
all_stay side p (a ∷ later) = both p (acted side p a) (all_acted side (acted side p a) later) (acted_stays side p a) (all_stay side (acted side p a) later)

-- the same ends, but for their sessions
before_stays : (e : End) (event : Event) → (before_event e event).left ≡ false → e.left ≡ false
before_stays e Event.Start is = is
before_stays e Event.Stop is = is
before_stays e Event.Connected is = is
before_stays e Event.Failed is = not_left is
before_stays e (Event.Expired timer) is = is

told_stays : (side : Side) (p : Pair) (e : Event) → Stays p (told side p e)
told_stays side p e =
    let q : Pair = pair (with_session (before_event p.this e) (after_event p.this.session e)) p.other p.notes in
    both p q (told side p e) (record { this = λ is. before_stays p.this e is; other = λ is. is }) (all_stay side q (happens p.this.session.standing e).actions)

fed_stays : (side : Side) (p : Pair) (octets : List ℕ) → Stays p (fed side p octets)
fed_stays side p octets =
    let q : Pair = pair (with_session p.this (by_octets p.this.session octets).session) p.other p.notes in
    both p q (fed side p octets) (record { this = λ is. is; other = λ is. is }) (all_stay side q (by_octets p.this.session octets).actions)

-- ---- worlds

pub record StaysSo (w v : World) : Type 0 where
  pub a : v.a.left ≡ false → w.a.left ≡ false
  pub b : v.b.left ≡ false → w.b.left ≡ false
  pub begun : v.begun ≡ w.begun

same_world : (w : World) → StaysSo w w
same_world w = record { a = λ is. is; b = λ is. is; begun = refl }

both_so : (w v x : World) → StaysSo w v → StaysSo v x → StaysSo w x
both_so w v x first second = record { a = λ is. first.a (second.a is); b = λ is. first.b (second.b is); begun = second.begun ∙ first.begun }

with_pair_stays : (side : Side) (w : World) (p : Pair) → Stays (seen_by side w) p → StaysSo w (with_pair side w p)
with_pair_stays A w p s = record { a = s.this; b = s.other; begun = refl }
with_pair_stays B w p s = record { a = s.other; b = s.this; begun = refl }

tells_stays : (side : Side) (e : Event) (w : World) → StaysSo w (tells side e w)
tells_stays side e w = with_pair_stays side w (told side (seen_by side w) e) (told_stays side (seen_by side w) e)

if_stays : (on : Bool) (side : Side) (e : Event) (w : World) → StaysSo w (tells_if on side e w)
if_stays true side e w = tells_stays side e w
if_stays false side e w = same_world w

lost_if_stays : (on : Bool) (w : World) → StaysSo w (lost_if on w)
lost_if_stays false w = same_world w
lost_if_stays true w =
    let cut : World = emptied w in
    let first : World = fails_up A cut in
    both_so w cut (fails_up B first) (record { a = λ is. is; b = λ is. is; begun = refl })
    (both_so cut first (fails_up B first) (if_stays (listens (state_of A cut)) A Event.Failed cut) (if_stays (listens (state_of B first)) B Event.Failed first))

lost_stays : (w : World) → StaysSo w (lost w)
lost_stays w = lost_if_stays (stands w) w

feeds_stays : (side : Side) (octets : List ℕ) (w : World) → StaysSo w (feeds side octets w)
feeds_stays side octets w = with_pair_stays side w (fed side (seen_by side w) octets) (fed_stays side (seen_by side w) octets)

module _ (n : ℕ) (later : (side : Side) (octets : List ℕ) (w : World) (answers : List Bool) → StaysSo w (delivered n side octets w answers).world) (side : Side) (octets : List ℕ) (w : World) (answers : List Bool) where
  passes_stays : (answer : Bool) → StaysSo w (delivers_on answer (delivered n side (drop 4096 octets)) side (take 4096 octets) w (later_of answers)).world
  passes_stays true =
      let fed_so : World = feeds side (take 4096 octets) w in
      both_so w fed_so (delivered n side (drop 4096 octets) fed_so (later_of answers)).world (feeds_stays side (take 4096 octets) w) (later side (drop 4096 octets) fed_so (later_of answers))
  passes_stays false = lost_stays w

  left_stays : (left : Bool) → StaysSo w (if left then ran w answers else delivers_on (answer_of answers) (delivered n side (drop 4096 octets)) side (take 4096 octets) w (later_of answers)).world
  left_stays true = same_world w
  left_stays false = passes_stays (answer_of answers)

delivered_stays : (n : ℕ) (side : Side) (octets : List ℕ) (w : World) (answers : List Bool) → StaysSo w (delivered n side octets w answers).world
delivered_stays zero side octets w answers = same_world w
delivered_stays (suc n) side [] w answers = same_world w
delivered_stays (suc n) side (octet ∷ octets) w answers = left_stays n (delivered_stays n) side (octet ∷ octets) w answers (end_of side w).left

drawn_stays : (side : Side) (k : ℕ) (w : World) → StaysSo w (drawn side k w)
drawn_stays A k w = record { a = λ is. is; b = λ is. is; begun = refl }
drawn_stays B k w = record { a = λ is. is; b = λ is. is; begun = refl }

delivers_stays : (side : Side) (k : ℕ) (w : World) (answers : List Bool) → StaysSo w (delivers side k w answers).world
delivers_stays side k w answers =
    both_so w (drawn side k w) (delivers side k w answers).world (drawn_stays side k w) (delivered_stays k side (take k (end_of side w).flight) (drawn side k w) answers)

sent_stays : (refusal : Option SendFault) (side : Side) (u : Update) (w : World) → StaysSo w (sent_or refusal side u w)
sent_stays None side u w = with_pair_stays side w (sent (seen_by side w) u) (record { this = λ is. is; other = λ is. is })
sent_stays (Some fault) side u w = record { a = λ is. is; b = λ is. is; begun = refl }

-- ---- a round has begun

pub record HasBegun (w : World) : Type 0 where
  pub a : w.a.left ≡ false → w.begun ≡ true
  pub b : w.b.left ≡ false → w.begun ≡ true

stays_begun : (w v : World) → StaysSo w v → HasBegun w → HasBegun v
stays_begun w v s h = record { a = λ is. s.begun ∙ h.a (s.a is); b = λ is. s.begun ∙ h.b (s.b is) }

joins_begun : (answer : Bool) (w : World) → HasBegun w → HasBegun (joins answer w)
joins_begun true w h = record { a = λ is. refl; b = λ is. refl }
joins_begun false w h =
    let first : World = tells A Event.Failed w in
    stays_begun w (tells B Event.Failed first) (both_so w first (tells B Event.Failed first) (tells_stays A Event.Failed w) (tells_stays B Event.Failed first)) h

joined_begun : (can : Bool) (w : World) (answers : List Bool) → HasBegun w → HasBegun (joined_if can w answers).world
joined_begun true w answers h = joins_begun (answer_of answers) w h
joined_begun false w answers h = h

moved_begun : (one : Move) (w : World) (answers : List Bool) → HasBegun w → HasBegun (moved one w answers).world
moved_begun (Move.Start side) w answers h = stays_begun w (tells side Event.Start w) (tells_stays side Event.Start w) h
moved_begun (Move.Stop side) w answers h = stays_begun w (tells side Event.Stop w) (tells_stays side Event.Stop w) h
moved_begun Move.Join w answers h = joined_begun (can_join w) w answers h
moved_begun (Move.Refuse side) w answers h = stays_begun w (refused_at side w) (if_stays (seeks (state_of side w)) side Event.Failed w) h
moved_begun (Move.Deliver side k) w answers h = stays_begun w (delivers side k w answers).world (delivers_stays side k w answers) h
moved_begun Move.Lose w answers h = stays_begun w (lost w) (lost_stays w) h
moved_begun (Move.Expire side timer) w answers h = stays_begun w (tells side (Event.Expired timer) w) (tells_stays side (Event.Expired timer) w) h
moved_begun (Move.Send side u) w answers h = stays_begun w (sends side u w) (sent_stays (refusal_of (end_of side w).session u) side u w) h

all_begun : (moves : List Move) (w : World) (answers : List Bool) → HasBegun w → HasBegun (all_moved moves w answers).world
all_begun [] w answers h = h
all_begun (one ∷ later) w answers h = all_begun later (moved one w answers).world (moved one w answers).answers (moved_begun one w answers h)

pub begun_behind : (a b : Settings) (moves : List Move) (answers : List Bool) → HasBegun (all_moved moves (begins a b) answers).world
begun_behind a b moves answers = all_begun moves (begins a b) answers (record { a = λ is. not_left is; b = λ is. not_left is })
