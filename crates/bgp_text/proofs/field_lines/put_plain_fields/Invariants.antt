use Rattle.bgp_text.proofs.Prelude.{◌≡◌, ◌++◌, length, flat_map, string_bytes, fields_left, plain_line}
use Rattle.bgp_text.proofs.field_lines.put_plain_fields.Given as goal

abbrev pub invariant-fields : goal.invariant-fields
invariant-fields l =
    string_bytes l.text ++ flat_map (plain_line l.message) (fields_left l.left)
    ≡ string_bytes l.initial.text ++ flat_map (plain_line l.message) (fields_left l.fn.fields)

abbrev pub decreases-fields : goal.decreases-fields
decreases-fields l = length (fields_left l.left)
