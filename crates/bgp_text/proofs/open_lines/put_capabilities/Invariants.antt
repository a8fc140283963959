use Rattle.bgp_text.proofs.Prelude.{◌≡◌, ◌++◌, take, flat_map, string_bytes}
use Rattle.bgp_text.specs.OpenLines.{capability_line}
use Rattle.bgp_text.proofs.open_lines.put_capabilities.Given as goal

-- the lines so far are those of the capabilities so far
abbrev pub invariant-loop-capability : goal.invariant-loop-capability
invariant-loop-capability l = string_bytes l.text ≡ string_bytes l.initial.text ++ flat_map capability_line (take l.capability-index l.caps)
