use Rattle.bgp_wire.proofs.Std.{refl, subst, ◌∙◌, err_from_is_err_and}
use Rattle.std.specs.Io.KnownBytes.{Appends}
use Rattle.bgp_loop.specs.Loop.{Io, IsTraced}
use Rattle.bgp_loop.proofs.Traces.{traces_so, fails_so}
use Rattle.bgp_loop.proofs.tracing.trace_loop.Goals as goal

pub returns : goal.returns
returns g c =
    let io : Io = record {
      honest = g.W.Wire.honest c.args.wire.now;
      failed_old = g.W.Wire.failed c.args.wire.now;
      failed_new = g.W.Wire.failed c.observe_pair.new.wire;
      writer_old = g.O.Write.contents c.args.output.now;
      writer_new = g.O.Write.contents c.put.new.output;
    } in
    record {
      report = c.in_ok-report.report;
      trace = c.observe_pair.new.observer.text;
      traced = traces_so c.args.script.now io c.in_ok-report.report c.in-Ok.script c.as_slice-moves.result.now c.new-tracer.result c.observe_pair.new.observer c.in-Ok.ensures c.as_slice-moves.ensures c.new-tracer.ensures
          c.in_ok-report.ensures.reported c.in_ok-report.ensures.failures c.in_ok-report.ensures.seen;
      wrote = subst (Appends (g.O.Write.contents c.args.output.now) (g.O.Write.contents c.put.new.output)) (c.as_bytes.ensures.value ∙ c.in_ok-text.ensures) c.in_ok-put.ensures.ok;
      counts = refl;
    }

pub returns-in_err-put : goal.returns-in_err-put
returns-in_err-put g c =
    let io : Io = record {
      honest = g.W.Wire.honest c.args.wire.now;
      failed_old = g.W.Wire.failed c.args.wire.now;
      failed_new = g.W.Wire.failed c.observe_pair.new.wire;
      writer_old = g.O.Write.contents c.args.output.now;
      writer_new = g.O.Write.contents c.put.new.output;
    } in
    let traces : IsTraced c.args.script.now io c.in_ok-report.report c.observe_pair.new.observer.text =
    traces_so c.args.script.now io c.in_ok-report.report c.in-Ok.script c.as_slice-moves.result.now c.new-tracer.result c.observe_pair.new.observer c.in-Ok.ensures c.as_slice-moves.ensures c.new-tracer.ensures
    c.in_ok-report.ensures.reported c.in_ok-report.ensures.failures c.in_ok-report.ensures.seen in
    let p = err_from_is_err_and c.from_residual-in_err-put.result c.from_residual-in_err-put.ensures.1 in
    rw (p.1, p.2)
    (fails_so c.args.script.now io c.in_ok-report.report c.observe_pair.new.observer.text c.as_bytes.result.now c.in_err-put.field-0.0 traces
    (c.as_bytes.ensures.value ∙ c.in_ok-text.ensures) c.in_err-put.ensures.err)
