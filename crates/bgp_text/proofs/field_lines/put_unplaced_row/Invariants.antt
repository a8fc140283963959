use Rattle.bgp_text.proofs.Prelude.{◌≡◌, ◌++◌, length, flat_map, string_bytes, row_left, unplaced_line, row_of}
use Rattle.bgp_text.proofs.field_lines.put_unplaced_row.Given as goal

abbrev pub invariant-row : goal.invariant-row
invariant-row l =
    string_bytes l.text ++ flat_map unplaced_line (row_of l.next (row_left l.left))
    ≡ string_bytes l.initial.text ++ flat_map unplaced_line (row_of l.fn.first (row_left l.fn.later))

abbrev pub decreases-row : goal.decreases-row
decreases-row l = length (row_of l.next (row_left l.left))
