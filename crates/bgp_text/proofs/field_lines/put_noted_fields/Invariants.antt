use Rattle.bgp_text.proofs.Prelude.{◌≡◌, ◌++◌, length, string_bytes, row_left, fields_left, noted_lines, noting_lines}
use Rattle.bgp_text.proofs.field_lines.put_noted_fields.Given as goal

abbrev pub invariant-fields : goal.invariant-fields
invariant-fields l =
    string_bytes l.text ++ noting_lines l.message l.noting (fields_left l.left)
    ≡ string_bytes l.initial.text ++ noted_lines l.message 0 (row_left l.fn.notes) (fields_left l.fn.fields)

abbrev pub decreases-fields : goal.decreases-fields
decreases-fields l = length (fields_left l.left)
