-- How turns over a wire are composed.
use Rattle.bgp_session.proofs.Prelude.{◌≡◌, ℕ, zero, suc, ◌+◌, ◌<◌, ◌≤◌, Bool, true, false, List, [], ◌∷◌, ◌++◌, length, map, take, drop, get_or}
use Rattle.bgp_session.proofs.Prelude.{if◌then◌else◌, ◌==◌, refl, sym, ap, ap₂, Option, None, Some, Result, subst, ◌∙◌, append_assoc, arith, take-suc, OnOk}
use Rattle.bgp_session.proofs.Prelude.{append-nil, length-drop, length-take, Move, Side, Wired, Gives, Observes, PlaysOn, Plays, Delivers, passed_seen, Sight}
use Rattle.bgp_session.proofs.Prelude.{Begun, observed, failed_after, failed_behind, Call, Joined, Handed, Cut, Grows, answers_in, Trace, trace, World}
use Rattle.bgp_session.proofs.Prelude.{end_of, stands, feeds_seen, lost_seen, Turn, Asks, Shows, calls_in, sights_in, Ran, ran, behind, shown, asked}
use Rattle.bgp_session.proofs.Prelude.{answer_of, later_of, joins, joins_seen, joined_if, delivers_on, delivered, drawn, delivers, moved, cut_behind, cut_if}
use Rattle.bgp_session.proofs.Prelude.{played, all_moved}
use Rattle.std.proofs.Math.Dec.{eqb-suc-zero}
use Rattle.bgp_session.proofs.Resting.{on_ok_both}
use Rattle.bgp_session.specs.Prelude.{Passes}

abbrev pub wired : {S : Type 0} → Bool → (S → Sight → S) → List Bool → List Bool → Trace S → Trace S → Wired S
wired honest after old new trace_old trace_new = record { honest = honest; after = after; old = old; new = new; trace_old = trace_old; trace_new = trace_new }

failed_both : (n : ℕ) (a b : List Bool) → failed_behind n (a ++ b) ≡ failed_behind (failed_behind n a) b
failed_both n [] b = refl
failed_both n (answer ∷ a) b = failed_both (failed_after n answer) a b

-- ---- the recorded calls

pub grows_none : (calls : Option (List Call)) → Grows calls calls []
grows_none None = tt
grows_none (Some calls) = sym (append-nil calls)

grows_both : (old mid new : Option (List Call)) (a b : List Call) → Grows old mid a → Grows mid new b → Grows old new (a ++ b)
grows_both None mid new a b first second = tt
grows_both (Some old) None new a b first second = absurd first
grows_both (Some old) (Some mid) None a b first second = absurd second
grows_both (Some old) (Some mid) (Some new) a b first second = second ∙ ap (λ (calls : List Call). calls ++ b) first ∙ append_assoc old a b

answers_both : (a b : List Call) → answers_in (a ++ b) ≡ answers_in a ++ answers_in b
answers_both [] b = refl
answers_both (Joined answer ∷ a) b = ap (λ (l : List Bool). answer ∷ l) (answers_both a b)
answers_both (Handed to octets answer ∷ a) b = ap (λ (l : List Bool). answer ∷ l) (answers_both a b)
answers_both (Cut ∷ a) b = answers_both a b

-- the calls of turns after turns, and what they show
pub calls_both : (a b : List Turn) → calls_in (a ++ b) ≡ calls_in a ++ calls_in b
calls_both [] b = refl
calls_both (Asks call ∷ a) b = ap (λ (l : List Call). call ∷ l) (calls_both a b)
calls_both (Shows sight ∷ a) b = calls_both a b

sights_both : (a b : List Turn) → sights_in (a ++ b) ≡ sights_in a ++ sights_in b
sights_both [] b = refl
sights_both (Asks call ∷ a) b = sights_both a b
sights_both (Shows sight ∷ a) b = ap (λ (l : List Sight). sight ∷ l) (sights_both a b)

pub calls_shown : (sights : List Sight) → calls_in (map Shows sights) ≡ []
calls_shown [] = refl
calls_shown (sight ∷ later) = calls_shown later

pub sights_shown : (sights : List Sight) → sights_in (map Shows sights) ≡ sights
sights_shown [] = refl
sights_shown (sight ∷ later) = ap (λ (l : List Sight). sight ∷ l) (sights_shown later)

pub observed_both : {S : Type 0} (after : S → Sight → S) (s : S) (a b : List Sight) → observed after s (a ++ b) ≡ observed after (observed after s a) b
observed_both after s [] b = refl
observed_both after s (sight ∷ a) b = observed_both after (after s sight) a b

no_answer : (stood stays : Bool) → answers_in (calls_in (cut_behind stood stays)) ≡ []
no_answer true true = refl
no_answer true false = refl
no_answer false stays = refl

abbrev with_turns : Ran → List Turn → Ran
with_turns r turns = record { world = r.world; answers = r.answers; turns = turns }

-- turns after turns
behind_both : (a b : List Turn) (r : Ran) → behind a (behind b r) ≡ behind (a ++ b) r
behind_both a b r = ap (with_turns r) (sym (append_assoc a b r.turns))

module _ {S : Type 0} (honest : Bool) (after : S → Sight → S) where
  -- no answer was given
  pub gives_none : (answers : List Bool) (at : Trace S) → Gives (wired honest after answers answers at at) [] []
  gives_none answers at = record { told = sym (append-nil answers); counted = refl; kept = grows_none at.calls; gave = refl }

  -- no answer was given, and this was shown
  pub gives_shown : (answers : List Bool) (old new : Trace S) (sights : List Sight) → new.failed ≡ old.failed → Grows old.calls new.calls []
      → Gives (wired honest after answers answers old new) [] (map Shows sights)
  gives_shown answers old new sights same kept = record {
    told = sym (append-nil answers);
    counted = same;
    kept = subst (λ (calls : List Call). Grows old.calls new.calls calls) (sym (calls_shown sights)) kept;
    gave = ap answers_in (calls_shown sights);
  }

  module _ (old mid new : List Bool) (trace_old trace_mid trace_new : Trace S) where
    pub gives_both : (a b : List Bool) (c d : List Turn) → Gives (wired honest after old mid trace_old trace_mid) a c → Gives (wired honest after mid new trace_mid trace_new) b d
        → Gives (wired honest after old new trace_old trace_new) (a ++ b) (c ++ d)
    gives_both a b c d first second = record {
      told = second.told ∙ ap (λ (l : List Bool). l ++ b) first.told ∙ append_assoc old a b;
      counted = second.counted ∙ ap (λ (n : ℕ). failed_behind n b) first.counted ∙ sym (failed_both trace_old.failed a b);
      kept = subst (λ (calls : List Call). Grows trace_old.calls trace_new.calls calls) (sym (calls_both c d))
          (grows_both trace_old.calls trace_mid.calls trace_new.calls (calls_in c) (calls_in d) first.kept second.kept);
      gave = ap answers_in (calls_both c d) ∙ answers_both (calls_in c) (calls_in d) ∙ ap₂ (λ (l m : List Bool). l ++ m) first.gave second.gave;
    }

    pub observes_both : (c d : List Turn) → Observes (wired honest after old mid trace_old trace_mid) c → Observes (wired honest after mid new trace_mid trace_new) d
        → Observes (wired honest after old new trace_old trace_new) (c ++ d)
    observes_both c d first second =
        second ∙ ap (λ (s : S). observed after s (sights_in d)) first ∙ sym (observed_both after trace_old.seen (sights_in c) (sights_in d))
        ∙ ap (observed after trace_old.seen) (sym (sights_both c d))

  -- a turn that asks nothing of the wire, and shows nothing
  pub plays_quietly : (answers : List Bool) (at : Trace S) (turn rest : List Bool → Ran) → ((later : List Bool) → turn later ≡ rest later)
      → PlaysOn (wired honest after answers answers at at) turn rest
  plays_quietly answers at turn rest same = record {
    given = [];
    turns = [];
    answers = gives_none answers at;
    observes = λ is. refl;
    goes_on = λ is later. same later;
  }

-- a move that asks nothing of the wire was made
pub moves_shown : {S : Type 0} (honest : Bool) (after : S → Sight → S) (answers : List Bool) (old new : Trace S) (one two : Move) (w v made : World) (sights : List Sight) → one ≡ two
    → ((later : List Bool) → moved two w later ≡ shown sights (ran made later)) → new.failed ≡ old.failed → Grows old.calls new.calls []
    → v ≡ made → new.seen ≡ observed after old.seen sights → Plays (wired honest after answers answers old new) (moved one w) v
moves_shown honest after answers old new one two w v made sights is same failed kept told seen = record {
  given = [];
  turns = map Shows sights;
  answers = gives_shown honest after answers old new sights failed kept;
  observes = λ fair. seen ∙ ap (observed after old.seen) (sym (sights_shown sights));
  goes_on = λ fair later. ap (λ (m : Move). moved m w later) is ∙ same later ∙ ap (λ (x : World). shown sights (ran x later)) (sym told);
}

pub moves_quietly : {S T E : Type 0} (honest : Bool) (after : S → Sight → S) (answers : List Bool) (failed : ℕ) (calls : Option (List Call)) (s t : S) (one two : Move) (w v made : World)
    (sights : List Sight) (r : Result T E) → one ≡ two → ((later : List Bool) → moved two w later ≡ shown sights (ran made later))
    → OnOk r (v ≡ made) → OnOk r (t ≡ observed after s sights) → OnOk r (Plays (wired honest after answers answers (trace failed calls s) (trace failed calls t)) (moved one w) v)
moves_quietly honest after answers failed calls s t one two w v made sights r is same told seen =
    on_ok_both (moves_shown honest after answers (trace failed calls s) (trace failed calls t) one two w v made sights is same refl (grows_none calls)) r told seen

-- both sides got the event for the wire's answer
pub joins_asked : {S T E : Type 0} (honest : Bool) (after : S → Sight → S) (old new : List Bool) (trace_old trace_new : Trace S) (w v : World) (can answer : Bool) (r : Result T E)
    → can ≡ true → new ≡ old ++ answer ∷ [] → trace_new.failed ≡ failed_after trace_old.failed answer → Grows trace_old.calls trace_new.calls (Joined answer ∷ [])
    → OnOk r (v ≡ joins answer w) → OnOk r (trace_new.seen ≡ observed after trace_old.seen (joins_seen answer w))
    → OnOk r (Plays (wired honest after old new trace_old trace_new) (joined_if can w) v)
joins_asked honest after old new trace_old trace_new w v can answer r is told counted kept made seen =
    on_ok_both (λ same sees. record {
      given = answer ∷ [];
      turns = Asks (Joined answer) ∷ map Shows (joins_seen answer w);
      answers = record {
        told = told;
        counted = counted;
        kept = subst (λ (calls : List Call). Grows trace_old.calls trace_new.calls (Joined answer ∷ calls)) (sym (calls_shown (joins_seen answer w))) kept;
        gave = ap (λ (calls : List Call). answer ∷ answers_in calls) (calls_shown (joins_seen answer w));
      };
      observes = λ fair. sees ∙ ap (observed after trace_old.seen) (sym (sights_shown (joins_seen answer w)));
      goes_on = λ fair later.
          ap (λ (b : Bool). joined_if b w (answer ∷ later)) is
          ∙ ap (λ (x : World). asked (Joined answer) (joins_seen answer w) (ran x later)) (sym same);
    }) r made seen

-- a move was made, and the wire cut where that ended the connection
module _ {S : Type 0} (honest : Bool) (after : S → Sight → S) (old new : List Bool) (trace_old trace_first trace_mid trace_new : Trace S) (one : Move) (w v : World) where
  pub plays_cut : (stood stays : Bool) → stood ≡ stands w → stays ≡ stands v → trace_first.failed ≡ trace_old.failed → Grows trace_old.calls trace_first.calls []
      → trace_first.seen ≡ after trace_old.seen (Begun one) → Plays (wired honest after old new trace_first trace_mid) (moved one w) v → trace_new.failed ≡ trace_mid.failed
      → Grows trace_mid.calls trace_new.calls (calls_in (cut_behind stood stays)) → trace_new.seen ≡ observed after trace_mid.seen (sights_in (cut_behind stood stays))
      → Plays (wired honest after old new trace_old trace_new) (played one w) v
  plays_cut stood stays stood_is stays_is first_same first_kept first_seen made same cut cut_seen =
      let last : List Turn = cut_behind (stands w) (stands v) in
      let last_is : cut_behind stood stays ≡ last = ap₂ cut_behind stood_is stays_is in
      let grew : Grows trace_mid.calls trace_new.calls (calls_in last) = subst (λ (turns : List Turn). Grows trace_mid.calls trace_new.calls (calls_in turns)) last_is cut in
      let saw : trace_new.seen ≡ observed after trace_mid.seen (sights_in last) = cut_seen ∙ ap (λ (turns : List Turn). observed after trace_mid.seen (sights_in turns)) last_is in
      record {
        given = made.given;
        turns = Shows (Begun one) ∷ (made.turns ++ last);
        answers = record {
          told = made.answers.told;
          counted = same ∙ made.answers.counted ∙ ap (λ (n : ℕ). failed_behind n made.given) first_same;
          kept = subst (λ (calls : List Call). Grows trace_old.calls trace_new.calls calls) (sym (calls_both made.turns last))
              (grows_both trace_old.calls trace_first.calls trace_new.calls [] (calls_in made.turns ++ calls_in last) first_kept
              (grows_both trace_first.calls trace_mid.calls trace_new.calls (calls_in made.turns) (calls_in last) made.answers.kept grew));
          gave = ap answers_in (calls_both made.turns last) ∙ answers_both (calls_in made.turns) (calls_in last)
              ∙ ap₂ (λ (l m : List Bool). l ++ m) made.answers.gave (no_answer (stands w) (stands v)) ∙ append-nil made.given;
        };
        observes = λ is.
            saw
            ∙ ap (λ (s : S). observed after s (sights_in last)) (made.observes is ∙ ap (λ (s : S). observed after s (sights_in made.turns)) first_seen)
            ∙ sym (observed_both after (after trace_old.seen (Begun one)) (sights_in made.turns) (sights_in last))
            ∙ ap (observed after (after trace_old.seen (Begun one))) (sym (sights_both made.turns last));
        goes_on = λ is later.
            ap (λ (r : Ran). shown (Begun one ∷ []) (cut_if (stands w) r)) (made.goes_on is later)
            ∙ ap (λ (turns : List Turn). with_turns (ran v later) (Shows (Begun one) ∷ turns))
            (ap (λ (turns : List Turn). turns ++ last) (append-nil made.turns) ∙ sym (append-nil (made.turns ++ last)));
      }

-- ---- a delivery

delivered_empty : (n : ℕ) (side : Side) (w : World) (answers : List Bool) → delivered n side [] w answers ≡ ran w answers
delivered_empty zero side w answers = refl
delivered_empty (suc n) side w answers = refl

if_left : (left : Bool) (r s : Ran) → left ≡ true → (if left then r else s) ≡ r
if_left true r s is = refl
if_left false r s is = absurd (let not : false ≡ true = is in cc)

if_not_left : (left : Bool) (r s : Ran) → left ≡ false → (if left then r else s) ≡ s
if_not_left false r s is = refl
if_not_left true r s is = absurd (let not : true ≡ false = is in cc)

-- a side that has left gets nothing more
delivered_left : (n : ℕ) (side : Side) (octets : List ℕ) (w : World) (answers : List Bool) → (end_of side w).left ≡ true → delivered n side octets w answers ≡ ran w answers
delivered_left zero side octets w answers is = refl
delivered_left (suc n) side [] w answers is = refl
delivered_left (suc n) side (octet ∷ octets) w answers is = if_left (end_of side w).left _ _ is

delivered_piece : (n : ℕ) (side : Side) (octets : List ℕ) (w : World) (answers : List Bool) → 0 < length octets → (end_of side w).left ≡ false
    → delivered (suc n) side octets w answers ≡ delivers_on (answer_of answers) (delivered n side (drop 4096 octets)) side (take 4096 octets) w (later_of answers)
delivered_piece n side [] w answers some is = absurd (omega arith)
delivered_piece n side (octet ∷ octets) w answers some is = if_not_left (end_of side w).left _ _ is

module _ {S : Type 0} (honest : Bool) (after : S → Sight → S) (side : Side) (turn : List Bool → Ran) (old mid new : List Bool) (trace_old trace_mid trace_new : Trace S) (octets : List ℕ) (w v : World) where
  abbrev Before : ℕ → Type 0
  Before n = PlaysOn (wired honest after old mid trace_old trace_mid) turn (delivered n side octets w)

  module _ (some : 0 < length octets) (stays : (end_of side w).left ≡ false) where
    -- one more piece was answered
    further : (n : ℕ) (answer : Bool) → PlaysOn (wired honest after old mid trace_old trace_mid) turn (delivered (suc n) side octets w)
        → Passes (wired honest after mid new trace_mid trace_new) answer side (take 4096 octets) w v
        → (rest : List Bool → Ran)
        → (honest ≡ true → (later : List Bool) → delivers_on answer (delivered n side (drop 4096 octets)) side (take 4096 octets) w later
        ≡ asked (Handed side (take 4096 octets) answer) (passed_seen answer side (take 4096 octets) w) (rest later))
        → PlaysOn (wired honest after old new trace_old trace_new) turn rest
    further n answer so_far passes rest same =
        let sights : List Sight = passed_seen answer side (take 4096 octets) w in
        let call : Call = Handed side (take 4096 octets) answer in
        let turns : List Turn = Asks call ∷ map Shows sights in
        let none : calls_in turns ≡ call ∷ [] = ap (λ (calls : List Call). call ∷ calls) (calls_shown sights) in
        let gives : Gives (wired honest after mid new trace_mid trace_new) (answer ∷ []) turns =
        record {
          told = passes.answers.told;
          counted = passes.answers.counted;
          kept = subst (λ (calls : List Call). Grows trace_mid.calls trace_new.calls calls) (sym none) passes.answers.kept;
          gave = ap answers_in none;
        } in
        record {
          given = so_far.given ++ answer ∷ [];
          turns = so_far.turns ++ turns;
          answers = gives_both honest after old mid new trace_old trace_mid trace_new so_far.given (answer ∷ []) so_far.turns turns so_far.answers gives;
          observes = λ is. observes_both honest after old mid new trace_old trace_mid trace_new so_far.turns turns (so_far.observes is)
              (passes.observes is ∙ ap (observed after trace_mid.seen) (sym (sights_shown sights)));
          goes_on = λ is later.
              ap turn (append_assoc so_far.given (answer ∷ []) later)
              ∙ so_far.goes_on is (answer ∷ later)
              ∙ ap (behind so_far.turns) (delivered_piece n side octets w (answer ∷ later) some stays ∙ same is later)
              ∙ behind_both so_far.turns turns (rest later);
        }

    piece_passes : (pieces : ℕ) → length octets ≤ pieces → Before pieces → Passes (wired honest after mid new trace_mid trace_new) true side (take 4096 octets) w v
        → Delivers (wired honest after old new trace_old trace_new) turn side (drop 4096 octets) v
    piece_passes zero enough so_far passes = absurd (omega arith)
    piece_passes (suc n) enough so_far passes = record {
      pieces = n;
      enough = let left = length-drop 4096 octets in omega arith;
      so_far = further n true so_far passes (delivered n side (drop 4096 octets) v)
          (λ is later. ap (λ (x : World). asked (Handed side (take 4096 octets) true) (feeds_seen side (take 4096 octets) w) (delivered n side (drop 4096 octets) x later)) (sym (passes.passes is)));
    }

    piece_lost : (pieces : ℕ) → length octets ≤ pieces → Before pieces → Passes (wired honest after mid new trace_mid trace_new) false side (take 4096 octets) w v
        → Plays (wired honest after old new trace_old trace_new) turn v
    piece_lost zero enough so_far passes = absurd (omega arith)
    piece_lost (suc n) enough so_far passes =
        further n false so_far passes (ran v) (λ is later. ap (λ (x : World). asked (Handed side (take 4096 octets) false) (lost_seen w) (ran x later)) (sym (passes.passes is)))

    pub delivers_piece : (pieces : ℕ) → length octets ≤ pieces → Before pieces → (answer : Bool) → answer ≡ true
        → Passes (wired honest after mid new trace_mid trace_new) answer side (take 4096 octets) w v
        → Delivers (wired honest after old new trace_old trace_new) turn side (drop 4096 octets) v
    delivers_piece pieces enough so_far true is passes = piece_passes pieces enough so_far passes
    delivers_piece pieces enough so_far false is passes = absurd (let not : false ≡ true = is in cc)

    pub loses_piece : (pieces : ℕ) → length octets ≤ pieces → Before pieces → (answer : Bool) → answer ≡ false
        → Passes (wired honest after mid new trace_mid trace_new) answer side (take 4096 octets) w v
        → Plays (wired honest after old new trace_old trace_new) turn v
    loses_piece pieces enough so_far false is passes = piece_lost pieces enough so_far passes
    loses_piece pieces enough so_far true is passes = absurd (let not : true ≡ false = is in cc)

-- what the code has of a piece
module _ {S : Type 0} (honest h : Bool) (same : h ≡ honest) (after : S → Sight → S) (side : Side) (turn : List Bool → Ran) (old mid new : List Bool) (trace_old trace_mid trace_new : Trace S) (octets piece rest : List ℕ) (w v : World)
    (d : Delivers (wired honest after old mid trace_old trace_mid) turn side octets w) (some : 0 < length octets) (stays : (end_of side w).left ≡ false)
    (front : piece ≡ take 4096 octets) (back : rest ≡ drop 4096 octets) (answer : Bool) (passes : Passes (wired h after mid new trace_mid trace_new) answer side piece w v) where
  passes_so : Passes (wired honest after mid new trace_mid trace_new) answer side (take 4096 octets) w v
  passes_so = subst (λ (p : List ℕ). Passes (wired honest after mid new trace_mid trace_new) answer side p w v) front (subst (λ (b : Bool). Passes (wired b after mid new trace_mid trace_new) answer side piece w v) same passes)

  pub goes_further : answer ≡ true → Delivers (wired honest after old new trace_old trace_new) turn side rest v
  goes_further is =
      subst (λ (o : List ℕ). Delivers (wired honest after old new trace_old trace_new) turn side o v) (sym back)
      (delivers_piece honest after side turn old mid new trace_old trace_mid trace_new octets w v some stays d.pieces d.enough d.so_far answer is passes_so)

  pub stops_there : answer ≡ false → Plays (wired honest after old new trace_old trace_new) turn v
  stops_there is = loses_piece honest after side turn old mid new trace_old trace_mid trace_new octets w v some stays d.pieces d.enough d.so_far answer is passes_so

-- the octets are drawn, and none of them has been passed yet
pub delivers_first : {S : Type 0} (honest : Bool) (after : S → Sight → S) (answers : List Bool) (at : Trace S) (side : Side) (count : ℕ) (w v : World) (octets : List ℕ) → octets ≡ take count (end_of side w).flight → v ≡ drawn side count w
    → Delivers (wired honest after answers answers at at) (delivers side count w) side octets v
delivers_first honest after answers at side count w v octets front drawn_so = record {
  pieces = count;
  enough = let long = length-take count (end_of side w).flight in let same = ap length front in omega arith;
  so_far = plays_quietly honest after answers at (delivers side count w) (delivered count side octets v)
      (λ later. ap (λ (o : List ℕ). delivered count side o (drawn side count w) later) (sym front) ∙ ap (λ (x : World). delivered count side octets x later) (sym drawn_so));
}

-- a delivery ends where no octets remain to be passed, or the side has left
module _ {S : Type 0} (wires : Wired S) (turn : List Bool → Ran) (side : Side) (octets : List ℕ) (w : World) (d : Delivers wires turn side octets w) where
  pub ends_empty : octets ≡ [] → Plays wires turn w
  ends_empty none = record {
    given = d.so_far.given;
    turns = d.so_far.turns;
    answers = d.so_far.answers;
    observes = d.so_far.observes;
    goes_on = λ is later. d.so_far.goes_on is later ∙ ap (behind d.so_far.turns) (ap (λ (o : List ℕ). delivered d.pieces side o w later) none ∙ delivered_empty d.pieces side w later);
  }

  pub ends_left : (end_of side w).left ≡ true → Plays wires turn w
  ends_left left = record {
    given = d.so_far.given;
    turns = d.so_far.turns;
    answers = d.so_far.answers;
    observes = d.so_far.observes;
    goes_on = λ is later. d.so_far.goes_on is later ∙ ap (behind d.so_far.turns) (delivered_left d.pieces side octets w later left);
  }

-- ---- one move after the others

moved_last : (moves : List Move) (one : Move) (w : World) (answers : List Bool)
    → all_moved (moves ++ one ∷ []) w answers ≡ behind (all_moved moves w answers).turns (played one (all_moved moves w answers).world (all_moved moves w answers).answers)
moved_last [] one w answers =
    ap (with_turns (moved one w answers)) (append-nil (played one w answers).turns)
moved_last (m ∷ moves) one w answers =
    let x : Ran = all_moved moves (moved m w answers).world (moved m w answers).answers in
    ap (behind (played m w answers).turns) (moved_last moves one (moved m w answers).world (moved m w answers).answers)
    ∙ behind_both (played m w answers).turns x.turns (played one x.world x.answers)

module _ {S : Type 0} (honest : Bool) (after : S → Sight → S) (begin : World) (old mid new : List Bool) (trace_old trace_mid trace_new : Trace S) (w v : World) where
  pub one_more : (moves : List Move) (one : Move) → Plays (wired honest after old mid trace_old trace_mid) (all_moved moves begin) w
      → Plays (wired honest after mid new trace_mid trace_new) (played one w) v → Plays (wired honest after old new trace_old trace_new) (all_moved (moves ++ one ∷ []) begin) v
  one_more moves one first second = record {
    given = first.given ++ second.given;
    turns = first.turns ++ second.turns;
    answers = gives_both honest after old mid new trace_old trace_mid trace_new first.given second.given first.turns second.turns first.answers second.answers;
    observes = λ is. observes_both honest after old mid new trace_old trace_mid trace_new first.turns second.turns (first.observes is) (second.observes is);
    goes_on = λ is later.
        ap (all_moved (moves ++ one ∷ []) begin) (append_assoc first.given second.given later)
        ∙ moved_last moves one begin (first.given ++ (second.given ++ later))
        ∙ ap (λ (r : Ran). behind r.turns (played one r.world r.answers)) (first.goes_on is (second.given ++ later))
        ∙ ap (λ (turns : List Turn). behind turns (played one w (second.given ++ later))) (append-nil first.turns)
        ∙ ap (behind first.turns) (second.goes_on is later)
        ∙ behind_both first.turns second.turns (ran v later);
  }

-- ---- whether a vector is empty

pub some_left : (empty : Bool) (n m : ℕ) → empty ≡ (n == 0) → empty ≡ false → n ≡ m → 0 < m
some_left empty zero m says is same = absurd (let not : true ≡ false = sym says ∙ is in cc)
some_left empty (suc n) m says is same = omega arith

pub none_left : {X : Type 0} (empty : Bool) (n : ℕ) (items : List X) → empty ≡ (n == 0) → empty ≡ true → n ≡ length items → items ≡ []
none_left empty n [] says is same = refl
none_left empty zero (x ∷ items) says is same = absurd (omega arith)
none_left empty (suc n) (x ∷ items) says is same = absurd (let not : false ≡ true = sym (eqb-suc-zero n) ∙ sym says ∙ is in cc)

-- what the code has of a move
module _ {S : Type 0} (honest h : Bool) (same : h ≡ honest) (after : S → Sight → S) (begin : World) (old mid new : List Bool) (trace_old trace_mid trace_new : Trace S) (w v : World) where
  pub plays_next : (moves : List Move) (i : ℕ) (one : Move) → i < length moves → one ≡ get_or moves i one → Plays (wired honest after old mid trace_old trace_mid) (all_moved (take i moves) begin) w
      → Plays (wired h after mid new trace_mid trace_new) (played one w) v → Plays (wired honest after old new trace_old trace_new) (all_moved (take (i + 1) moves) begin) v
  plays_next moves i one lt is first second =
      let next : i + 1 ≡ suc i = omega arith in
      let more : take (i + 1) moves ≡ take i moves ++ one ∷ [] = ap (λ (k : ℕ). take k moves) next ∙ take-suc moves i one lt ∙ ap (λ (m : Move). take i moves ++ m ∷ []) (sym is) in
      subst (λ (ms : List Move). Plays (wired honest after old new trace_old trace_new) (all_moved ms begin) v) (sym more)
      (one_more honest after begin old mid new trace_old trace_mid trace_new w v (take i moves) one first
      (subst (λ (b : Bool). Plays (wired b after mid new trace_mid trace_new) (played one w) v) same second))
