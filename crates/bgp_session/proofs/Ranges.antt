-- Each number of what was sent is within its field, move by move.
use Rattle.bgp_session.proofs.Prelude.{◌≡◌, ℕ, suc, ◌+◌, ◌<◌, Bool, true, List, [], ◌∷◌, ◌++◌, ◌≤◌, length, take, get_or, Result, Ok, Err, sym, ap, subst}
use Rattle.bgp_session.proofs.Prelude.{◌∙◌, append_assoc, arith, take-suc, IfOk, append-nil, take_all, Move, Report, SendsRanges, AllSendRanges, Plays}
use Rattle.bgp_session.proofs.Prelude.{HaveSoFar, report_of, Sight, Trace, World, Ran, moved, played, all_moved}
use Rattle.bgp_session.proofs.Plays.{wired}

sends_last : (moves : List Move) (one : Move) (w : World) (answers : List Bool) → AllSendRanges moves w answers → SendsRanges (all_moved moves w answers).world one
    → AllSendRanges (moves ++ one ∷ []) w answers
sends_last [] one w answers all is = (is, tt)
sends_last (m ∷ moves) one w answers all is = (all.0, sends_last moves one (moved m w answers).world (moved m w answers).answers all.1 is)

module _ {S : Type 0} (honest h : Bool) (after : S → Sight → S) (begin : World) (start mid new : List Bool) (none : start ≡ []) (trace_old trace_mid trace_new : Trace S) (w v : World) where
  -- one more move, which asked the wire for what it needs
  one_more : (moves : List Move) (one : Move) → Plays (wired honest after start mid trace_old trace_mid) (all_moved moves begin) w
      → Plays (wired h after mid new trace_mid trace_new) (played one w) v → SendsRanges w one → HaveSoFar honest moves begin mid → HaveSoFar honest (moves ++ one ∷ []) begin new
  one_more moves one first second sends so_far = λ is later.
      let given : List Bool = second.given in
      let all : mid ++ (given ++ later) ≡ new ++ later = sym (append_assoc mid given later) ∙ ap (λ (l : List Bool). l ++ later) (sym second.answers.told) in
      let were : mid ≡ first.given = first.answers.told ∙ ap (λ (l : List Bool). l ++ first.given) none in
      let here : (all_moved moves begin (mid ++ (given ++ later))).world ≡ w =
      ap (λ (l : List Bool). (all_moved moves begin (l ++ (given ++ later))).world) were ∙ ap (λ (r : Ran). r.world) (first.goes_on is (given ++ later)) in
      subst (λ (l : List Bool). AllSendRanges (moves ++ one ∷ []) begin l) all
      (sends_last moves one begin (mid ++ (given ++ later)) (so_far is (given ++ later)) (subst (λ (x : World). SendsRanges x one) (sym here) sends))

  -- what the code has of it
  pub sends_next : (moves : List Move) (i : ℕ) (one : Move) → i < length moves → one ≡ get_or moves i one → Plays (wired honest after start mid trace_old trace_mid) (all_moved (take i moves) begin) w
      → Plays (wired h after mid new trace_mid trace_new) (played one w) v → SendsRanges w one → HaveSoFar honest (take i moves) begin mid → HaveSoFar honest (take (i + 1) moves) begin new
  sends_next moves i one lt is first second sends so_far =
      let next : i + 1 ≡ suc i = omega arith in
      let more : take (i + 1) moves ≡ take i moves ++ one ∷ [] = ap (λ (k : ℕ). take k moves) next ∙ take-suc moves i one lt ∙ ap (λ (m : Move). take i moves ++ m ∷ []) (sym is) in
      subst (λ (ms : List Move). HaveSoFar honest ms begin new) (sym more) (one_more (take i moves) one first second sends so_far)

-- all were played: what is reported has these answers
pub all_sent : {E : Type 0} (honest : Bool) (moves : List Move) (begin w : World) (answers : List Bool) (i : ℕ) → length moves ≤ i → HaveSoFar honest (take i moves) begin answers → honest ≡ true
    → (r : Result Report E) → IfOk r (λ report. report ≡ report_of w answers) → IfOk r (λ report. AllSendRanges moves begin report.answers)
all_sent honest moves begin w answers i le so_far is (Ok report) reports =
    let all : AllSendRanges moves begin (answers ++ []) = subst (λ (ms : List Move). AllSendRanges ms begin (answers ++ [])) (take_all i moves le) (so_far is []) in
    let same : answers ++ [] ≡ report.answers = append-nil answers ∙ sym (ap (λ (x : Report). x.answers) reports) in
    subst (λ (l : List Bool). AllSendRanges moves begin l) same all
all_sent honest moves begin w answers i le so_far is (Err e) reports = tt
