use Rattle.bgp_text.proofs.Prelude.{◌≡◌, ◌++◌, take, flat_map, string_bytes, behind_comma, capability_json}
use Rattle.bgp_text.proofs.json_open.put_further_capabilities.Given as goal

-- the text so far has the capabilities so far
abbrev pub invariant-loop-capability : goal.invariant-loop-capability
invariant-loop-capability l =
    string_bytes l.text ≡ string_bytes l.initial.text ++ flat_map (behind_comma capability_json) (take l.capability-index l.caps)
