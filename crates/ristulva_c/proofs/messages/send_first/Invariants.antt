use Rattle.std.proofs.Common.{◌≡◌, map, drop}
use Rattle.bgp_machine.specs.Prelude.{action_of}
use Rattle.ristulva_c.specs.Prelude.{octets_sent}
use Rattle.ristulva_c.proofs.messages.send_first.Given as goal

-- nothing was sent so far: what is sent is what the remaining actions send
abbrev pub invariant-actions : goal.invariant-actions
invariant-actions l =
    (octets_sent l.own (map action_of l.actions) ≡ octets_sent l.own (map action_of (drop l.action-index l.actions))) × (l.buffer ≡ l.initial.buffer)
