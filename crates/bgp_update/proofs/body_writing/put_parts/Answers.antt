use Rattle.std.proofs.Common.{arith}
use Rattle.std.proofs.lemmas.Grind.{common_steps}
use Rattle.bgp_update.proofs.body_writing.put_parts.Goals as goal

-- given here, since `search` would first try other ways in vain
pub returns-clause-ok : goal.returns-clause-ok
returns-clause-ok g c = grind (arith, common_steps)

pub returns-in_err-put_room-clause-err : goal.returns-in_err-put_room-clause-err
returns-in_err-put_room-clause-err g c = grind (arith, common_steps)

pub returns-in_err-put_withdrawn-clause-err : goal.returns-in_err-put_withdrawn-clause-err
returns-in_err-put_withdrawn-clause-err g c = grind (arith, common_steps)

pub returns-in_err-put_room-2-clause-err : goal.returns-in_err-put_room-2-clause-err
returns-in_err-put_room-2-clause-err g c = grind (arith, common_steps)

pub returns-in_err-put_attributes-clause-err : goal.returns-in_err-put_attributes-clause-err
returns-in_err-put_attributes-clause-err g c = grind (arith, common_steps)

pub returns-in_err-write-clause-err : goal.returns-in_err-write-clause-err
returns-in_err-write-clause-err g c = grind (arith, common_steps)
