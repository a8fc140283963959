use Rattle.std.proofs.Common.{◌≡◌, drop}
use Rattle.bgp_open.specs.Prelude.{told_by, told_of, offering}
use Rattle.bgp_open.proofs.message.Open.peer.Given as goal

-- with what is left, all capabilities are collected
abbrev pub invariant-loop-capability : goal.invariant-loop-capability
invariant-loop-capability l = offering (told_of l.peer) (drop l.capability-index l.self.caps) ≡ told_by l.self
