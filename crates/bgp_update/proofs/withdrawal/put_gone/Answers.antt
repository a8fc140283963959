use Rattle.std.proofs.Common.{arith}
use Rattle.std.proofs.lemmas.Grind.{common_steps}
use Rattle.bgp_update.proofs.withdrawal.put_gone.Goals as goal

-- given here, since `search` would first try other ways in vain
pub returns-in_err-begin_attr-clause-err : goal.returns-in_err-begin_attr-clause-err
returns-in_err-begin_attr-clause-err g c = grind (arith, common_steps)

pub returns-in_err-put-clause-err : goal.returns-in_err-put-clause-err
returns-in_err-put-clause-err g c = grind (arith, common_steps)

pub returns-in_err-put_ip6-clause-err : goal.returns-in_err-put_ip6-clause-err
returns-in_err-put_ip6-clause-err g c = grind (arith, common_steps)

pub returns-clause-ok : goal.returns-clause-ok
returns-clause-ok g c = grind (arith, common_steps)

pub returns-clause-err : goal.returns-clause-err
returns-clause-err g c = grind (arith, common_steps)

pub finish_attr-requires-clause-room : goal.finish_attr-requires-clause-room
finish_attr-requires-clause-room g c = grind (arith, common_steps)

pub finish_attr-requires-clause-short : goal.finish_attr-requires-clause-short
finish_attr-requires-clause-short g c = grind (arith, common_steps)
