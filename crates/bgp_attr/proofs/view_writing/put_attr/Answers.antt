use Rattle.bgp_wire.proofs.Std.{arith, on_ok_weaker}
use Rattle.bgp_attr.specs.Prelude.{attr_value, canonical, headed, value_octets}
use Rattle.bgp_attr.proofs.Heads.{behind_head, nothing_begun, length_now, made_whole, made_refused}
use Rattle.bgp_attr.proofs.Parts.{on_refusal, on_both, part_refused}
use Rattle.bgp_attr.proofs.view_writing.put_attr.Goals as goal

pub returns-in_err-put_view_value-clause-err : goal.returns-in_err-put_view_value-clause-err
returns-in_err-put_view_value-clause-err g c =
    on_refusal c.from_residual-in_err-put_view_value.result (part_refused g.O.Output.room (g.O.Output.written c.args.out.now) _ _ (canonical c.args.ctx.now (attr_value c.args.view.now)) _ (g.O.Output.written c.put_view_value.new.out)
    (behind_head c.args.ctx.now (attr_value c.args.view.now)) c.in_ok-begin_attr.ensures.ok c.in_err-put_view_value.ensures.err)

pub returns : goal.returns
returns g c =
    let a = attr_value c.args.view.now in
    let old = g.O.Output.written c.args.out.now in
    let value = value_octets c.args.ctx.now a in
    record {
      ok = on_ok_weaker c.finish_attr.result (made_whole (headed a) c.len-start.result old value _ _ c.len-start.ensures c.in_ok-begin_attr.ensures.ok c.in_ok-put_view_value.ensures.ok (g.O.Output.written c.finish_attr.new.out)) c.finish_attr.ensures.ok;
      err = on_both c.finish_attr.result (made_refused (headed a) c.len-start.result old value _ _ c.len-start.ensures c.in_ok-begin_attr.ensures.ok c.in_ok-put_view_value.ensures.ok g.O.Output.room (g.O.Output.written c.finish_attr.new.out)) c.finish_attr.ensures.err c.finish_attr.ensures.full;
    }

pub returns-in_err-begin_attr-clause-err : goal.returns-in_err-begin_attr-clause-err
returns-in_err-begin_attr-clause-err g c =
    on_refusal c.from_residual.result (nothing_begun c.args.ctx.now (attr_value c.args.view.now) g.O.Output.room (g.O.Output.written c.args.out.now) (g.O.Output.written c.begin_attr.new.out) c.in_err-begin_attr.ensures.err c.in_err-begin_attr.ensures.full)

pub finish_attr-requires-clause-room : goal.finish_attr-requires-clause-room
finish_attr-requires-clause-room g c = omega (arith, length_now (headed (attr_value c.args.view.now)) c.len-start.result (g.O.Output.written c.args.out.now) (value_octets c.args.ctx.now (attr_value c.args.view.now)) _ _ c.len-start.ensures c.in_ok-begin_attr.ensures.ok c.in_ok-put_view_value.ensures.ok)

pub finish_attr-requires-clause-short : goal.finish_attr-requires-clause-short
finish_attr-requires-clause-short g c = omega (arith, length_now (headed (attr_value c.args.view.now)) c.len-start.result (g.O.Output.written c.args.out.now) (value_octets c.args.ctx.now (attr_value c.args.view.now)) _ _ c.len-start.ensures c.in_ok-begin_attr.ensures.ok c.in_ok-put_view_value.ensures.ok, c.requires.short)
