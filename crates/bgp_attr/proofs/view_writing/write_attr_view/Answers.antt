use Rattle.bgp_wire.proofs.Std.{ltb-false, on_err_weaker}
use Rattle.bgp_attr.specs.Prelude.{attr_value}
use Rattle.bgp_attr.proofs.Parts.{not_ok, not_err, all_back}
use Rattle.bgp_attr.proofs.TestRows.{writable-Writes}
use Rattle.bgp_attr.proofs.view_writing.write_attr_view.Goals as goal

pub put_attr-written-requires-clause-filled : goal.put_attr-written-requires-clause-filled
put_attr-written-requires-clause-filled g c = (writable-Writes c.args.ctx.now (attr_value c.args.view.now) c.requires).some

pub put_attr-written-requires-clause-short : goal.put_attr-written-requires-clause-short
put_attr-written-requires-clause-short g c = ltb-false 65535 _ (writable-Writes c.args.ctx.now (attr_value c.args.view.now) c.requires).fits

pub returns-then-is_err-clause-ok : goal.returns-then-is_err-clause-ok
returns-then-is_err-clause-ok g c = not_ok _ c.put_attr-written.result c.is_err.result c.is_err.ensures.value c.if-is_err.true

pub returns-then-is_err-clause-err : goal.returns-then-is_err-clause-err
returns-then-is_err-clause-err g c = all_back _ c.put_attr-written.result (g.O.Output.written c.args.out.now) (g.O.Output.written c.put_attr-written.new.out) (g.O.Output.written c.truncate.new.self) c.len-start.result c.len-start.ensures c.truncate.ensures c.put_attr-written.ensures.err

pub returns-then-is_err-clause-full : goal.returns-then-is_err-clause-full
returns-then-is_err-clause-full g c = on_err_weaker c.put_attr-written.result (λ p. p.1) c.put_attr-written.ensures.err

pub returns-else-is_err-clause-ok : goal.returns-else-is_err-clause-ok
returns-else-is_err-clause-ok g c = c.put_attr-written.ensures.ok

pub returns-else-is_err-clause-err : goal.returns-else-is_err-clause-err
returns-else-is_err-clause-err g c = not_err _ c.put_attr-written.result c.is_err.result c.is_err.ensures.value c.if-is_err.false

pub returns-else-is_err-clause-full : goal.returns-else-is_err-clause-full
returns-else-is_err-clause-full g c = not_err _ c.put_attr-written.result c.is_err.result c.is_err.ensures.value c.if-is_err.false
