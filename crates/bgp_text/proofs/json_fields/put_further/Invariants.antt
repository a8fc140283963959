use Rattle.bgp_text.proofs.Prelude.{◌≡◌, ◌++◌, length, flat_map, string_bytes, row_left, behind_comma, unplaced_json}
use Rattle.bgp_text.proofs.json_fields.put_further.Given as goal

abbrev pub invariant-row : goal.invariant-row
invariant-row l =
    string_bytes l.text ++ flat_map (behind_comma unplaced_json) (row_left l.left)
    ≡ string_bytes l.initial.text ++ flat_map (behind_comma unplaced_json) (row_left l.fn.notes)

abbrev pub decreases-row : goal.decreases-row
decreases-row l = length (row_left l.left)
