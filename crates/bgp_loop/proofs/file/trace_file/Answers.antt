use Rattle.std.proofs.Common.{ℕ, true, inl, subst}
use Rattle.bgp_loop.specs.Loop.{AnswersTrace}
use Rattle.bgp_loop.proofs.file.trace_file.Goals as goal

pub returns-then-not-tcp : goal.returns-then-not-tcp
returns-then-not-tcp g c = inl (record { text = c.deref.result.now; failures = 0; answers = c.trace_loop.ensures })

pub returns-in-Ok-new : goal.returns-in-Ok-new
returns-in-Ok-new g c =
    inl (record {
      text = c.deref-in-Ok-new.result.now;
      failures = c.trace_loop-in-Ok-new.new.wire.failures;
      answers = subst
          (λ (n : ℕ). AnswersTrace c.deref-in-Ok-new.result.now (record {
            honest = true;
            failed_old = n;
            failed_new = c.trace_loop-in-Ok-new.new.wire.failures;
            writer_old = g.W.Write.contents c.args.output.now;
            writer_new = g.W.Write.contents c.trace_loop-in-Ok-new.new.output;
          }) c.trace_loop-in-Ok-new.result)
          c.in-Ok-new.ensures.ok c.trace_loop-in-Ok-new.ensures;
    })
