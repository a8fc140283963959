use Rattle.bgp_text.proofs.Prelude.{◌≡◌, ◌++◌, map, take, flat_map, string_bytes, opaque_value}
use Rattle.bgp_text.specs.AttributeLines.{opaque_line}
use Rattle.bgp_text.proofs.attribute_lines.put_others.Given as goal

-- the lines so far are those of the attributes so far
abbrev pub invariant-loop-opaque : goal.invariant-loop-opaque
invariant-loop-opaque l = string_bytes l.text ≡ string_bytes l.initial.text ++ flat_map opaque_line (map opaque_value (take l.opaque-index l.others))
