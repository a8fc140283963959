use Rattle.bgp_wire.proofs.Std.{◌≡◌, ◌++◌, take, flat_map}
use Rattle.std.specs.String.{string_bytes}
use Rattle.bgp_script.specs.TraceText.{behind_semicolon}
use Rattle.bgp_script.proofs.trace_text.put_actions.Given as goal

-- the words so far are those of the actions so far
abbrev pub invariant-actions : goal.invariant-actions
invariant-actions l = string_bytes l.text ≡ string_bytes l.initial.text ++ flat_map behind_semicolon (take l.action-index l.actions)
