use Rattle.bgp_frame.specs.declared.step.Step.TheVariants as step
use Rattle.ristulva_c.specs.Prelude.{context_of}
use Rattle.ristulva_c.proofs.PartPlaces.{lie}
use Rattle.ristulva_c.proofs.judge.ristulva_judge.Goals as goal

pub returns-in-Frame : goal.returns-in-Frame
returns-in-Frame c =
    let f = c.in-Frame.frame in
    record {
      found = step.Frame f;
      shows = c.in-Frame.ensures;
      answers = c.tell_frame.ensures;
      lie = λ p is. lie c.args.octets.now f.len (record { kind = f.kind; body = f.body.now }) p c.are_octets.ensures c.in-Frame.ensures.1 is;
    }

pub returns-in-Fault : goal.returns-in-Fault
returns-in-Fault c = record { found = step.Fault c.in-Fault.fault; shows = c.in-Fault.ensures; answers = c.tell_fault.ensures (context_of c.args.ctx.now); lie = tt }
