-- The first message of a stream.
use Rattle.bgp_engine.proofs.Prelude.{◌≡◌, ℕ, ◌+◌, ◌≤◌, true, false, List, ◌++◌, length, take, drop, Option, Some, None, Err, refl, sym, ap, ◌∙◌, arith}
use Rattle.bgp_engine.proofs.Prelude.{le-ltb, drop-append_seam, take-append-drop, take-append-le, length-append, take_all, HeadFault, head_of, header}
use Rattle.bgp_engine.proofs.Prelude.{Message, octets_of, IsFrame, Waits, wanted, wanted_by, head_of-append, head_of-IsFrame, length-IsFrame, wanted-append}
use Rattle.bgp_engine.proofs.Prelude.{wanted_by_head, IsFrame-wanted, is_part, first_message, first_open, open_in}
use Rattle.std.proofs.lemmas.Bool.{lt-ltb}
use Rattle.bgp_frame.proofs.Headers.{length-header}
use Rattle.bgp_frame.specs.Kind.{plain}
use Rattle.bgp_frame.specs.steps.AreTypes.{plain-are}

pub waits_part : (s : List ℕ) → Waits s → is_part s ≡ true
waits_part s waits = lt-ltb (length s) (wanted s) waits

-- ---- a message, whatever follows it

module _ (m : Message) (frame : List ℕ) (f : IsFrame m frame) (later : List ℕ) where
  long : 19 ≤ length frame
  long = let n = length-IsFrame plain plain-are m frame f in omega arith

  wants : wanted (frame ++ later) ≡ length frame
  wants = wanted-append plain plain-are frame later long ∙ IsFrame-wanted plain plain-are m frame f

  pub frame_whole : is_part (frame ++ later) ≡ false
  frame_whole = let w = wants in let l = length-append frame later in le-ltb (length (frame ++ later)) (wanted (frame ++ later)) (omega arith)

  front_is : take (length frame) (frame ++ later) ≡ frame
  front_is = take-append-le (length frame) frame later (omega arith) ∙ take_all (length frame) frame (omega arith)

  body_is : drop 19 frame ≡ m.body
  body_is =
      ap (drop 19) f.octets
      ∙ ap (λ (n : ℕ). drop n (octets_of m)) (sym (length-header plain plain-are m.kind (19 + length m.body)))
      ∙ drop-append_seam (header m.kind (19 + length m.body)) m.body

  pub frame_first : first_message (frame ++ later) ≡ Some m
  frame_first =
      rw (frame_whole, head_of-append plain plain-are frame later long ∙ head_of-IsFrame plain plain-are m frame f)
      (ap (λ (b : List ℕ). let o : Option Message = Some (record { kind = m.kind; body = b }) in o) (ap (drop 19) front_is ∙ body_is))

  pub frame_open : first_open (frame ++ later) ≡ open_in m.kind m.body
  frame_open = rw frame_first refl

-- ---- a header with a fault

module _ (s : List ℕ) (f : HeadFault) (long : 19 ≤ length s) (faulty : head_of s ≡ Err f) where
  pub fault_whole : is_part s ≡ false
  fault_whole = let w = wanted_by_head plain plain-are s long ∙ ap wanted_by faulty in le-ltb (length s) (wanted s) (omega arith)

  pub fault_first : first_message s ≡ None
  fault_first = rw (fault_whole, faulty) refl

-- a stream that begins with a message
pub front_open : (s : List ℕ) (m : Message) (n : ℕ) → (n ≤ length s) × IsFrame m (take n s) → open_in m.kind m.body ≡ first_open s
front_open s m n shows = sym (frame_open m (take n s) shows.1 (drop n s)) ∙ ap first_open (take-append-drop n s)
