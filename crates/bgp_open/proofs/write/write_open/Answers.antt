use Rattle.std.proofs.Common.{sym, arith}
use Rattle.bgp_open.proofs.Spellings.{canonical-spells}
use Rattle.bgp_open.proofs.write.write_open.Goals as goal

pub returns-in_ok-extend_from_slice-in-Some-clause-spelled :
    goal.returns-in_ok-extend_from_slice-in-Some-clause-spelled
returns-in_ok-extend_from_slice-in-Some-clause-spelled c =
    canonical-spells c.args.message.now c.deref.result.now c.in-Some.row.items (omega arith) (omega arith) (omega arith)
    (sym c.if-is_short_hold.ensures) (sym c.if-is_zero_id.ensures) c.deref.ensures c.in-Some.ensures.octets c.in-Some.ensures.spelled
