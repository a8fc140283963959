use Rattle.std.proofs.Common.{◌≡◌, ◌-◌, ◌++◌, take, replicate}
use Rattle.bgp_prefix.specs.Prelude.{leading_bits}
use Rattle.bgp_prefix.proofs.bits.address.Given as goal

-- the octets so far are cleared, and the others are 0
abbrev pub invariant-loop-i : goal.invariant-loop-i
invariant-loop-i g l = l.addr ≡ leading_bits l.len (take l.i l.octets) ++ replicate (g.row.W - l.i) 0
