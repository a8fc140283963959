use Rattle.std.proofs.Common.{ℕ, List, subst}
use Rattle.bgp_frame.specs.declared.step.Step.TheVariants as step
use Rattle.ristulva_c.specs.Prelude.{context_of, fields_told, IsFilled}
use Rattle.ristulva_c.proofs.fields.ristulva_fields.Goals as goal

pub returns-in-Frame : goal.returns-in-Frame
returns-in-Frame c =
    record {
      found = step.Frame c.in-Frame.frame;
      shows = c.in-Frame.ensures;
      fills =
          subst (λ (b : List ℕ). IsFilled (fields_told (context_of c.args.ctx.now) b) (record { status = c.fill.result; before = c.args.list.now; behind = c.fill.new.list; written_before = c.args.written.now; written_behind = c.fill.new.written }))
          c.first.ensures c.fill.ensures;
    }

pub returns-in-Fault : goal.returns-in-Fault
returns-in-Fault c =
    record {
      found = step.Fault c.in-Fault.field-0;
      shows = c.in-Fault.ensures;
      fills =
          subst (λ (b : List ℕ). IsFilled (fields_told (context_of c.args.ctx.now) b) (record { status = c.fill-in-Fault.result; before = c.args.list.now; behind = c.fill-in-Fault.new.list; written_before = c.args.written.now; written_behind = c.fill-in-Fault.new.written }))
          c.first-in-Fault.ensures c.fill-in-Fault.ensures;
    }
