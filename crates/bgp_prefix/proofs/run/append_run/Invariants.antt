use Rattle.std.proofs.Common.{take}
use Rattle.bgp_wire.proofs.Writes.{IsWritten}
use Rattle.bgp_prefix.specs.Prelude.{IsValid, spelling_of}
use Rattle.bgp_prefix.proofs.run.append_run.Given as goal

-- the prefixes so far are written
abbrev pub invariant-run : goal.invariant-run
invariant-run g l = IsWritten spelling_of (IsValid g.row.W) (take l.prefix-index l.prefixes) (g.O.Output.written l.initial.out) (g.O.Output.written l.out)
