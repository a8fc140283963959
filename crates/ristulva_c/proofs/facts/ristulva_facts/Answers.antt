use Rattle.bgp_frame.specs.declared.step.Step.TheVariants as step
use Rattle.ristulva_c.specs.Prelude.{context_of}
use Rattle.ristulva_c.proofs.FactPlaces.{all_lie}
use Rattle.ristulva_c.proofs.facts.ristulva_facts.Goals as goal

pub returns-in-Frame : goal.returns-in-Frame
returns-in-Frame c =
    let f = c.in-Frame.frame in
    record {
      found = step.Frame f;
      shows = c.in-Frame.ensures;
      tells = c.tell_facts.ensures;
      lie = λ a is. all_lie (context_of c.args.ctx.now) c.args.octets.now f.len (record { kind = f.kind; body = f.body.now }) a c.are_octets.ensures c.in-Frame.ensures.1 is;
    }
