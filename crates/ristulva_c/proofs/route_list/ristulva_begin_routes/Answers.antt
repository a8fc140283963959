use Rattle.std.proofs.Common.{refl}
use Rattle.bgp_frame.specs.declared.step.Step.TheVariants as step
use Rattle.ristulva_c.specs.Prelude.{context_of}
use Rattle.ristulva_c.proofs.RouteLists.{begins, begins_fault}
use Rattle.ristulva_c.proofs.route_list.ristulva_begin_routes.Goals as goal

pub returns-in-Frame : goal.returns-in-Frame
returns-in-Frame c =
    let f = c.in-Frame.frame in
    let b = begins (context_of c.args.ctx.now) c.args.octets.now f.len (record { kind = f.kind; body = f.body.now }) c.are_octets.ensures c.in-Frame.ensures.1 in
    record {
      found = step.Frame f;
      shows = c.in-Frame.ensures;
      begins = (refl, rw c.begin.ensures b.0, rw c.begin.ensures b.1);
    }

pub returns-in-Fault : goal.returns-in-Fault
returns-in-Fault c = record {
  found = step.Fault c.in-Fault.field-0;
  shows = c.in-Fault.ensures;
  begins = (refl, rw c.no_routes.ensures (begins_fault c.args.octets.now c.in-Fault.field-0));
}
