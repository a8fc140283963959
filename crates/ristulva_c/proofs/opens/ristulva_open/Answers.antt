use Rattle.ristulva_c.proofs.Below.{Option, sym, subst, ◌∙◌, Open}
use Rattle.bgp_frame.specs.declared.step.Step.TheVariants as step
use Rattle.ristulva_c.specs.Prelude.{TellsOpen}
use Rattle.ristulva_c.proofs.OpenPlaces.{accepts, gives}
use Rattle.ristulva_c.proofs.opens.ristulva_open.Goals as goal

pub returns-in-Frame : goal.returns-in-Frame
returns-in-Frame c =
    let f = c.in-Frame.frame in
    record {
      found = step.Frame f;
      shows = c.in-Frame.ensures;
      tells = λ ctx. subst (λ (x : Option Open). TellsOpen f.len x c.tell_open.result c.args.out.now c.tell_open.new.out) (sym (accepts ctx f.kind f.body.now)) c.tell_open.ensures;
      lie = λ ctx o is. gives c.args.octets.now f.len (record { kind = f.kind; body = f.body.now }) o c.in-Frame.ensures.0 c.in-Frame.ensures.1 (sym (accepts ctx f.kind f.body.now) ∙ is);
    }
