use Rattle.bgp_text.proofs.Prelude.{◌≡◌, ◌++◌, length, flat_map, string_bytes, fields_left, faulty_line}
use Rattle.bgp_frame.specs.Prelude.{notification_of_view}
use Rattle.bgp_text.proofs.field_lines.put_faulty_fields.Given as goal

abbrev pub invariant-fields : goal.invariant-fields
invariant-fields l =
    string_bytes l.text ++ flat_map (faulty_line l.message l.fault (notification_of_view l.answer)) (fields_left l.left)
    ≡ string_bytes l.initial.text ++ flat_map (faulty_line l.message l.fault (notification_of_view l.answer)) (fields_left l.fn.fields)

abbrev pub decreases-fields : goal.decreases-fields
decreases-fields l = length (fields_left l.left)
