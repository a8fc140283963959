-- The first line that isn't a move.
use Rattle.std.proofs.Common.{◌≡◌, ℕ, List, [], ◌∷◌, ◌++◌, Option, Some, None, Result, Ok, Err, refl, sym, ap, ◌∙◌}
use Rattle.bgp_session.specs.declared.moves.Move.{Move}
use Rattle.bgp_script.specs.declared.speakers.Speakers.{Speakers}
use Rattle.bgp_script.specs.Faults.{IsFirstFault}
use Rattle.bgp_script.specs.Lines.{Told}
use Rattle.bgp_script.specs.Move.{move_of}
use Rattle.bgp_script.specs.Pieces.{words_of}
use Rattle.bgp_script.specs.Script.{◌>>=◌, at_line, moves_of}

-- the moves of a line and of those after it
abbrev both : ℕ → Option Move → Result (List Move) ℕ → Result (List Move) ℕ
both k first later = at_line k first >>= (λ m. later >>= (λ ms. Ok (m ∷ ms)))

module _ (speakers : Speakers) where
  abbrev of_line : Told → Option Move
  of_line t = move_of speakers (words_of t.line)

  here : (t : Told) (ts : List Told) (n : ℕ) (o : Option Move) (r : Result (List Move) ℕ) → of_line t ≡ o → moves_of speakers ts ≡ r → both t.number o r ≡ Err n
      → (moves_of speakers ts ≡ Err n → IsFirstFault speakers ts n) → IsFirstFault speakers (t ∷ ts) n
  here t ts n None r is later e further = record { front = []; faulty = t; later = ts; all = refl; moves = []; are_moves = refl; is_none = is; number = cc }
  here t ts n (Some m) (Ok ms) is later e further = absurd cc
  here t ts n (Some m) (Err k) is later e further =
      let same : k ≡ n = cc in
      let found = further (later ∙ ap (λ (x : ℕ). Err x) same) in
      record {
        front = t ∷ found.front;
        faulty = found.faulty;
        later = found.later;
        all = ap (λ (x : List Told). t ∷ x) found.all;
        moves = m ∷ found.moves;
        are_moves = ap (λ (x : Option Move). both t.number x (moves_of speakers found.front)) is ∙ ap (both t.number (Some m)) found.are_moves;
        is_none = found.is_none;
        number = found.number;
      }

  pub first_fault : (lines : List Told) (n : ℕ) → moves_of speakers lines ≡ Err n → IsFirstFault speakers lines n
  first_fault [] n e = absurd cc
  first_fault (t ∷ ts) n e = here t ts n (of_line t) (moves_of speakers ts) refl refl e (first_fault ts n)

  rest_of : (t : Told) (front : List Told) (o : Option Move) (r : Result (List Move) ℕ) (moves : List Move) → of_line t ≡ o → moves_of speakers front ≡ r → both t.number o r ≡ Ok moves
      → (m : Move) × (ms : List Move) × (of_line t ≡ Some m) × (moves_of speakers front ≡ Ok ms)
  rest_of t front None r moves is later e = absurd cc
  rest_of t front (Some m) (Err k) moves is later e = absurd cc
  rest_of t front (Some m) (Ok ms) moves is later e = (m, ms, is, later)

  stops : (front : List Told) (faulty : Told) (later : List Told) (moves : List Move) → moves_of speakers front ≡ Ok moves → of_line faulty ≡ None → moves_of speakers (front ++ (faulty ∷ later)) ≡ Err faulty.number
  stops [] faulty later moves are none = ap (λ (x : Option Move). both faulty.number x (moves_of speakers later)) none
  stops (t ∷ front) faulty later moves are none =
      let parts = rest_of t front (of_line t) (moves_of speakers front) moves refl refl are in
      ap (λ (x : Option Move). both t.number x (moves_of speakers (front ++ (faulty ∷ later)))) parts.2
      ∙ ap (both t.number (Some parts.0)) (stops front faulty later parts.1 parts.3 none)

  pub is_fault : (lines : List Told) (n : ℕ) → IsFirstFault speakers lines n → moves_of speakers lines ≡ Err n
  is_fault lines n f = ap (moves_of speakers) f.all ∙ stops f.front f.faulty f.later f.moves f.are_moves f.is_none ∙ ap (λ (x : ℕ). Err x) (sym f.number)
