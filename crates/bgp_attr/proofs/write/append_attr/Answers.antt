use Rattle.bgp_wire.proofs.Std.{ℕ, ◌+◌, ◌<◌, List, ◌++◌, length, ◌∙◌, arith, subst, on_ok_weaker, on_err_weaker}
use Rattle.bgp_attr.specs.Prelude.{ref_value, canonical, made, value_octets}
use Rattle.bgp_attr.proofs.Heads.{behind_head, nothing_begun, length_now, too_long, made_whole, made_refused}
use Rattle.bgp_attr.proofs.Parts.{on_refusal, part_refused}
use Rattle.bgp_attr.proofs.write.append_attr.Goals as goal

pub returns-in_err-put_value-clause-err : goal.returns-in_err-put_value-clause-err
returns-in_err-put_value-clause-err g c =
    on_refusal c.from_residual-in_err-put_value.result (part_refused g.O.Output.room (g.O.Output.written c.args.out.now) _ _ (canonical c.args.ctx.now (ref_value c.args.attr)) _ (g.O.Output.written c.put_value.new.out)
    (behind_head c.args.ctx.now (ref_value c.args.attr)) c.in_ok-begin_attr.ensures.ok c.in_err-put_value.ensures.err)

pub returns : goal.returns
returns g c =
    let old = g.O.Output.written c.args.out.now in
    let value = value_octets c.args.ctx.now (ref_value c.args.attr) in
    let form = c.form_of.ensures in
    let make = λ (v : List ℕ). (made c.form_of.result.class c.form_of.result.partial c.form_of.result.kind v).whole in
    let refused = made_refused make c.len-start.result old value _ _ c.len-start.ensures c.in_ok-begin_attr.ensures.ok c.in_ok-put_value.ensures.ok.0 g.O.Output.room (g.O.Output.written c.finish.new.out) in
    let whole = made_whole make c.len-start.result old value _ _ c.len-start.ensures c.in_ok-begin_attr.ensures.ok c.in_ok-put_value.ensures.ok.0 (g.O.Output.written c.finish.new.out) in
    record {
      ok = on_ok_weaker c.finish.result (λ e. (whole e ∙ (λ i. old ++ (made (form.1 i) (form.2 i) (form.0 i) value).whole), c.in_ok-put_value.ensures.ok.1)) c.finish.ensures.ok;
      err = on_err_weaker c.finish.result (λ p. ((refused p.0 p.1).0, subst (λ (b : List ℕ). g.O.Output.room < length old + length b) (λ i. (made (form.1 i) (form.2 i) (form.0 i) value).whole) (refused p.0 p.1).1)) c.finish.ensures.err;
    }

pub returns-in_err-begin_attr-clause-err : goal.returns-in_err-begin_attr-clause-err
returns-in_err-begin_attr-clause-err g c =
    on_refusal c.from_residual.result (nothing_begun c.args.ctx.now (ref_value c.args.attr) g.O.Output.room (g.O.Output.written c.args.out.now) (g.O.Output.written c.begin_attr.new.out) c.in_err-begin_attr.ensures.err c.in_err-begin_attr.ensures.full)

pub returns-then-len-start-clause-err : goal.returns-then-len-start-clause-err
returns-then-len-start-clause-err g c =
    too_long (λ (v : List ℕ). v) c.len-start.result (g.O.Output.written c.args.out.now) (value_octets c.args.ctx.now (ref_value c.args.attr)) _ _ c.len-start.ensures c.in_ok-begin_attr.ensures.ok c.in_ok-put_value.ensures.ok.0 (canonical c.args.ctx.now (ref_value c.args.attr)) (behind_head c.args.ctx.now (ref_value c.args.attr)) g.O.Output.room c.from.result c.len.result (omega (arith, c.requires.room, c.from.ensures)) c.if-len-start.true c.len.ensures

pub finish-requires-clause-room : goal.finish-requires-clause-room
finish-requires-clause-room g c = omega (arith, length_now (λ (v : List ℕ). v) c.len-start.result (g.O.Output.written c.args.out.now) (value_octets c.args.ctx.now (ref_value c.args.attr)) _ _ c.len-start.ensures c.in_ok-begin_attr.ensures.ok c.in_ok-put_value.ensures.ok.0)

pub finish-requires-clause-short : goal.finish-requires-clause-short
finish-requires-clause-short g c = omega (arith, length_now (λ (v : List ℕ). v) c.len-start.result (g.O.Output.written c.args.out.now) (value_octets c.args.ctx.now (ref_value c.args.attr)) _ _ c.len-start.ensures c.in_ok-begin_attr.ensures.ok c.in_ok-put_value.ensures.ok.0, c.len.ensures, c.from.ensures, c.if-len-start.false)
