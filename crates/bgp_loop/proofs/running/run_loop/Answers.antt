use Rattle.std.proofs.Common.{List, refl, subst, ◌∙◌}
use Rattle.std.specs.Io.KnownBytes.{Appends}
use Rattle.bgp_session.specs.declared.moves.Move.{Move}
use Rattle.bgp_session.specs.Prelude.{IsReported}
use Rattle.bgp_loop.proofs.running.run_loop.Goals as goal

pub returns : goal.returns
returns g c = record {
  report = c.in_ok-report.report;
  ran = record {
    script = c.in-Ok.script;
    read = c.in-Ok.ensures;
    reported = λ honest. subst (λ (moves : List Move). IsReported c.in-Ok.script.a c.in-Ok.script.b moves c.in_ok-report.report) c.as_slice.ensures (c.in_ok-report.ensures.reported honest);
    failures = c.in_ok-report.ensures.failures;
  };
  wrote = subst (Appends (g.O.Write.contents c.args.output.now) (g.O.Write.contents c.put.new.output)) (c.as_bytes.ensures.value ∙ c.in_ok-text.ensures) c.in_ok-put.ensures.ok;
  counts = refl;
}
