use Rattle.std.proofs.Common.{take}
use Rattle.bgp_open.proofs.WrittenRows.{IsRowOf}
use Rattle.bgp_open.proofs.row.row_of.Given as goal

-- the row so far is that of the capabilities so far
abbrev pub invariant-loop-capability : goal.invariant-loop-capability
invariant-loop-capability l = IsRowOf (take l.capability-index l.caps) l.row.items
