-- The numbers of a path in rows, segment by segment.
use Rattle.ristulva_c.proofs.Below.{◌≡◌, ℕ, ◌+◌, List, [], ◌∷◌, ◌++◌, length, map, refl, sym, ap, ap₂, subst, ◌∙◌, arith, length-map, append-nil, append_assoc, length-append, Segment}
use Rattle.ristulva_c.specs.declared.number_rows.NumberRow.{NumberRow}
use Rattle.ristulva_c.specs.Prelude.{number_row, segment_rows, Adds, numbers_in}
use Rattle.ristulva_c.proofs.Rows.{adds_none, adds_join}

pub rows_count : (message segment : ℕ) (ss : List Segment) → length (segment_rows message segment ss) ≡ numbers_in ss
rows_count message segment [] = refl
rows_count message segment (s ∷ later) =
    length-append (map (number_row message segment s.kind) s.numbers) (segment_rows message (segment + 1) later)
    ∙ ap₂ ◌+◌ (length-map s.numbers (number_row message segment s.kind)) (rows_count message (segment + 1) later)

-- the rows of some segments are written, and the others remain
pub record IsPathWriting (message : ℕ) (all left : List Segment) (segment from to : ℕ) (before list : List NumberRow) : Type 0 where
  pub done : List NumberRow
  pub whole : segment_rows message 0 all ≡ done ++ segment_rows message segment left
  pub place : segment + length left ≡ length all
  pub counted : to ≡ from + length done
  pub adds : Adds done from to before list

pub path_begins : (message : ℕ) (all : List Segment) (from : ℕ) (list : List NumberRow) → IsPathWriting message all all 0 from from list list
path_begins message all from list = record { done = []; whole = refl; place = omega arith; counted = omega arith; adds = adds_none from list }

pub path_more : (message : ℕ) (all left later : List Segment) (segment from to next : ℕ) (before list after : List NumberRow) (s : Segment)
    → IsPathWriting message all left segment from to before list → left ≡ s ∷ later → Adds (map (number_row message segment s.kind) s.numbers) to next list after
    → next ≡ to + length (map (number_row message segment s.kind) s.numbers) → IsPathWriting message all later (segment + 1) from next before after
path_more message all left later segment from to next before list after s w is adds counted =
    let rows = map (number_row message segment s.kind) s.numbers in
    record {
      done = w.done ++ rows;
      whole = w.whole ∙ ap (λ (ss : List Segment). w.done ++ segment_rows message segment ss) is ∙ sym (append_assoc w.done rows (segment_rows message (segment + 1) later));
      place = omega (arith, w.place, ap length is);
      counted = omega (arith, w.counted, counted, length-append w.done rows);
      adds = adds_join w.done rows from to next before list after w.adds adds;
    }

pub path_done : (message : ℕ) (all left : List Segment) (segment from to : ℕ) (before list : List NumberRow) → IsPathWriting message all left segment from to before list → left ≡ []
    → Adds (segment_rows message 0 all) from to before list
path_done message all left segment from to before list w none =
    subst (λ (rows : List NumberRow). Adds rows from to before list)
    (sym (w.whole ∙ ap (λ (ss : List Segment). w.done ++ segment_rows message segment ss) none ∙ append-nil w.done)) w.adds
