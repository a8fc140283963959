use Rattle.std.proofs.Common.{◌≡◌}
use Rattle.bgp_open.specs.Prelude.{capabilities_left, open_value, told_by, told_of, offering}
use Rattle.bgp_open.proofs.open_view.OpenView.peer.Given as goal

-- with what is left, all capabilities are collected
abbrev pub invariant-loop-capability : goal.invariant-loop-capability
invariant-loop-capability l = offering (told_of l.peer) (capabilities_left l.capability-iterator) ≡ told_by (open_value l.self)
