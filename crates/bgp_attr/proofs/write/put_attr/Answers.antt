use Rattle.bgp_wire.proofs.Std.{on_err_weaker, on_ok_weaker}
use Rattle.bgp_attr.proofs.Parts.{not_ok, not_err, all_back}
use Rattle.bgp_attr.proofs.write.put_attr.Goals as goal

pub returns-then-is_err-clause-ok : goal.returns-then-is_err-clause-ok
returns-then-is_err-clause-ok g c = not_ok _ c.append_attr-written.result c.is_err.result c.is_err.ensures.value c.if-is_err.true

pub returns-then-is_err-clause-ranges : goal.returns-then-is_err-clause-ranges
returns-then-is_err-clause-ranges g c = not_ok _ c.append_attr-written.result c.is_err.result c.is_err.ensures.value c.if-is_err.true

pub returns-then-is_err-clause-err : goal.returns-then-is_err-clause-err
returns-then-is_err-clause-err g c = all_back _ c.append_attr-written.result (g.O.Output.written c.args.out.now) (g.O.Output.written c.append_attr-written.new.out) (g.O.Output.written c.truncate.new.self) c.len-start.result c.len-start.ensures c.truncate.ensures c.append_attr-written.ensures.err

pub returns-then-is_err-clause-full : goal.returns-then-is_err-clause-full
returns-then-is_err-clause-full g c = on_err_weaker c.append_attr-written.result (λ p. p.1) c.append_attr-written.ensures.err

pub returns-else-is_err-clause-ok : goal.returns-else-is_err-clause-ok
returns-else-is_err-clause-ok g c = on_ok_weaker c.append_attr-written.result (λ p. p.0) c.append_attr-written.ensures.ok

pub returns-else-is_err-clause-ranges : goal.returns-else-is_err-clause-ranges
returns-else-is_err-clause-ranges g c = on_ok_weaker c.append_attr-written.result (λ p. p.1) c.append_attr-written.ensures.ok

pub returns-else-is_err-clause-err : goal.returns-else-is_err-clause-err
returns-else-is_err-clause-err g c = not_err _ c.append_attr-written.result c.is_err.result c.is_err.ensures.value c.if-is_err.false

pub returns-else-is_err-clause-full : goal.returns-else-is_err-clause-full
returns-else-is_err-clause-full g c = not_err _ c.append_attr-written.result c.is_err.result c.is_err.ensures.value c.if-is_err.false
