use Rattle.bgp_text.proofs.Prelude.{◌≡◌, ◌++◌, flat_map, string_bytes, segments_left}
use Rattle.bgp_text.specs.PathLine.{segment_text}
use Rattle.bgp_text.proofs.path_line.put_segments.Given as goal

-- the text so far, and that of the segments left, are all
abbrev pub invariant-path : goal.invariant-path
invariant-path l =
    string_bytes l.text ++ flat_map segment_text (segments_left l.left)
    ≡ string_bytes l.initial.text ++ flat_map segment_text (segments_left l.fn.segments)
