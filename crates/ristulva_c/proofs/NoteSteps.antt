-- Notes in the caller's list.
use Rattle.ristulva_c.proofs.Below.{◌≡◌, ℕ, suc, ◌+◌, ◌<◌, ◌≤◌, List, [], ◌∷◌, ◌++◌, length, map, set, refl, sym, ap, ◌∙◌, arith, length-map, length_push, map-append, append_assoc, length-append, Note}
use Rattle.ristulva_c.specs.declared.notes.ToldNote.{ToldNote}
use Rattle.ristulva_c.specs.Prelude.{note_told, listed}

pub length-listed : (ns places : List ToldNote) → length (listed ns places) ≡ length places
length-listed [] places = refl
length-listed (n ∷ ns) [] = refl
length-listed (n ∷ ns) (old ∷ places) = ap suc (length-listed ns places)

-- one more is written at the next index
pub one_listed : (ns places : List ToldNote) (n : ToldNote) → length ns < length places → set (listed ns places) (length ns) n ≡ listed (ns ++ n ∷ []) places
one_listed [] [] n there = absurd (omega arith)
one_listed [] (old ∷ places) n there = refl
one_listed (m ∷ ns) [] n there = absurd (omega arith)
one_listed (m ∷ ns) (old ∷ places) n there = ap (λ (l : List ToldNote). m ∷ l) (one_listed ns places n (omega arith))

-- where there is none, the list is unchanged
pub none_listed : (ns places : List ToldNote) (n : ToldNote) → length places ≤ length ns → listed (ns ++ n ∷ []) places ≡ listed ns places
none_listed [] [] n full = refl
none_listed [] (old ∷ places) n full = absurd (omega arith)
none_listed (m ∷ ns) [] n full = refl
none_listed (m ∷ ns) (old ∷ places) n full = ap (λ (l : List ToldNote). m ∷ l) (none_listed ns places n (omega arith))

-- a note is written after `count` others
pub put_one : (list before places : List ToldNote) (count : ℕ) (n : ToldNote) → length before ≡ count → list ≡ listed before places → count < length list → set list count n ≡ listed (before ++ n ∷ []) places
put_one list before places count n counted is there =
    let room : length before < length places = omega (arith, counted, ap length is, length-listed before places, there) in
    ap (λ (l : List ToldNote). set l count n) is ∙ ap (λ (k : ℕ). set (listed before places) k n) (sym counted) ∙ one_listed before places n room

pub put_none : (list before places : List ToldNote) (count : ℕ) (n : ToldNote) → length before ≡ count → list ≡ listed before places → length list ≤ count → list ≡ listed (before ++ n ∷ []) places
put_none list before places count n counted is full =
    let no_room : length places ≤ length before = omega (arith, counted, ap length is, length-listed before places, full) in
    is ∙ sym (none_listed before places n no_room)

-- ---- the notes so far

-- these are listed, and the others remain
pub record IsSoFar (all left : List Note) (count : ℕ) (list places : List ToldNote) : Type 0 where
  pub done : List Note
  pub whole : all ≡ done ++ left
  pub counted : length done ≡ count
  pub lists : list ≡ listed (map note_told done) places

-- what writing one more ensures
abbrev pub Puts : ℕ → Note → List ToldNote → List ToldNote → Type 0
Puts count note list new = (before places : List ToldNote) → length before ≡ count → list ≡ listed before places → new ≡ listed (before ++ note_told note ∷ []) places

pub one_more : (all left later : List Note) (count : ℕ) (list new places : List ToldNote) (note : Note) → IsSoFar all left count list places → left ≡ note ∷ later → Puts count note list new
    → IsSoFar all later (count + 1) new places
one_more all left later count list new places note so_far is puts =
    let done = so_far.done in
    record {
      done = done ++ note ∷ [];
      whole = so_far.whole ∙ ap (λ (l : List Note). done ++ l) is ∙ sym (append_assoc done (note ∷ []) later);
      counted = length_push done note ∙ ap (λ (n : ℕ). n + 1) so_far.counted;
      lists = puts (map note_told done) places (length-map done note_told ∙ so_far.counted) so_far.lists ∙ ap (λ (l : List ToldNote). listed l places) (sym (map-append note_told done (note ∷ [])));
    }

pub few_so_far : (all left : List Note) (count : ℕ) (list places : List ToldNote) → IsSoFar all left count list places → length all ≤ 1361 → count + length left ≤ 1361
few_so_far all left count list places so_far few = omega (arith, ap length so_far.whole, length-append so_far.done left, so_far.counted, few)
