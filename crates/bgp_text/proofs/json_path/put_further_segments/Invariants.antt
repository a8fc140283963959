use Rattle.bgp_text.proofs.Prelude.{◌≡◌, ◌++◌, flat_map, string_bytes, segments_left, behind_comma}
use Rattle.bgp_text.specs.JsonPath.{segment_json}
use Rattle.bgp_text.proofs.json_path.put_further_segments.Given as goal

-- the text so far, and that of the segments left, are all
abbrev pub invariant-path : goal.invariant-path
invariant-path l =
    string_bytes l.text ++ flat_map (behind_comma segment_json) (segments_left l.left)
    ≡ string_bytes l.initial.text ++ flat_map (behind_comma segment_json) (segments_left l.fn.segments)
