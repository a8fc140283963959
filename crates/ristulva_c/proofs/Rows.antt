-- Rows in the caller's list, in sequence.
use Rattle.ristulva_c.proofs.Below.{◌≡◌, ℕ, ◌+◌, ◌<◌, ◌≤◌, List, [], ◌∷◌, ◌++◌, length, map, drop, set, refl, sym, ap, subst, ◌∙◌, arith, length_push, set-append_right, append-nil, append_assoc, drop-drop, length-append, length-drop}
use Rattle.ristulva_c.specs.Prelude.{Holds, Adds}

set_first : {A : Type 0} (ys : List A) (y : A) → 0 < length ys → set ys 0 y ≡ y ∷ drop 1 ys
set_first [] y some = absurd (omega arith)
set_first (old ∷ ys) y some = refl

set_next : {A : Type 0} (front back : List A) (count : ℕ) (y : A) → length front ≡ count → 0 < length back → set (front ++ back) count y ≡ (front ++ y ∷ []) ++ drop 1 back
set_next front back count y is some =
    set-append_right front back count count y is (omega arith)
    ∙ ap (λ (n : ℕ). front ++ set back n y) (omega arith)
    ∙ ap (λ (l : List _). front ++ l) (set_first back y some)
    ∙ sym (append_assoc front (y ∷ []) (drop 1 back))

pub hold_length : {A : Type 0} (rows : List A) (count : ℕ) (list places : List A) → Holds rows count list places → length list ≡ length places
hold_length rows count list places h = omega (arith, ap length h.stand, length-append rows (drop count places), length-drop count places, h.counted, h.room)

pub hold_next : {A : Type 0} (rows : List A) (count : ℕ) (list places : List A) (x : A) → Holds rows count list places → count < length places → Holds (rows ++ x ∷ []) (count + 1) (set list count x) places
hold_next rows count list places x h room = record {
  stand =
      ap (λ (l : List _). set l count x) h.stand
      ∙ set_next rows (drop count places) count x h.counted (omega (arith, length-drop count places, room))
      ∙ ap (λ (l : List _). (rows ++ x ∷ []) ++ l) (drop-drop 1 count places);
  counted = length_push rows x ∙ ap (λ (n : ℕ). n + 1) h.counted;
  room = omega (arith, room);
}

-- ---- written in sequence

pub adds_none : {A : Type 0} (from : ℕ) (list : List A) → Adds [] from from list list
adds_none from list first places h = subst (λ (r : List _). Holds r from list places) (sym (append-nil first)) h

pub adds_join : {A : Type 0} (xs ys : List A) (a b c : ℕ) (l m n : List A) → Adds xs a b l m → Adds ys b c m n → Adds (xs ++ ys) a c l n
adds_join xs ys a b c l m n before behind first places h =
    subst (λ (r : List _). Holds r c n places) (append_assoc first xs ys) (behind (first ++ xs) places (before first places h))

-- of some rows the first are written, and the others remain
pub record IsWriting {A : Type 0} (all left : List A) (from to : ℕ) (before list : List A) : Type 0 where
  pub done : List A
  pub whole : all ≡ done ++ left
  pub counted : to ≡ from + length done
  pub adds : Adds done from to before list

pub writes_none : {A : Type 0} (all : List A) (from : ℕ) (list : List A) → IsWriting all all from from list list
writes_none all from list = record { done = []; whole = refl; counted = omega arith; adds = adds_none from list }

-- there is a next place
pub place_left : {A : Type 0} (all left later : List A) (from to : ℕ) (before list : List A) (row : A)
    → IsWriting all left from to before list → left ≡ row ∷ later → from + length all ≤ length list → to < length list
place_left all left later from to before list row w is room = omega (arith, w.counted, ap length w.whole, length-append w.done left, ap length is, room)

pub writes_more : {A : Type 0} (all left later : List A) (from to : ℕ) (before list : List A) (row : A)
    → IsWriting all left from to before list → left ≡ row ∷ later → from + length all ≤ length list → IsWriting all later from (to + 1) before (set list to row)
writes_more all left later from to before list row w is room = record {
  done = w.done ++ row ∷ [];
  whole = w.whole ∙ ap (λ (l : List _). w.done ++ l) is ∙ sym (append_assoc w.done (row ∷ []) later);
  counted = omega (arith, w.counted, length_push w.done row);
  adds = λ first places h.
      let here = w.adds first places h in
      subst (λ (r : List _). Holds r (to + 1) (set list to row) places) (append_assoc first w.done (row ∷ []))
      (hold_next (first ++ w.done) to list places row here (omega (arith, hold_length (first ++ w.done) to list places here, place_left all left later from to before list row w is room)));
}

pub all_written : {A : Type 0} (all left : List A) (from to : ℕ) (before list : List A) → IsWriting all left from to before list → left ≡ []
    → Adds all from to before list × (to ≡ from + length all)
all_written all left from to before list w none =
    let same : all ≡ w.done = w.whole ∙ ap (λ (l : List _). w.done ++ l) none ∙ append-nil w.done in
    (subst (λ (l : List _). Adds l from to before list) (sym same) w.adds, w.counted ∙ ap (λ (l : List _). from + length l) (sym same))

-- ---- rows of items

pub told_first : {A B : Type 0} (told : A → B) (items later : List A) (x : A) → items ≡ x ∷ later → map told items ≡ told x ∷ map told later
told_first told items later x is = ap (map told) is

pub told_none : {A B : Type 0} (told : A → B) (items : List A) → items ≡ [] → map told items ≡ []
told_none told items none = ap (map told) none
