use Rattle.ristulva_c.proofs.Below.{Option, subst}
use Rattle.bgp_frame.specs.declared.step.Step.TheVariants as step
use Rattle.bgp_terms.specs.Prelude.{Agreed, wide_terms}
use Rattle.ristulva_c.specs.Refresh.{IsRefreshBy}
use Rattle.ristulva_c.proofs.Refreshes.{says}
use Rattle.ristulva_c.proofs.refresh.ristulva_refresh_in.Goals as goal

pub returns-in-Frame : goal.returns-in-Frame
returns-in-Frame c =
    let octets = c.args.octets.now in
    let frame = c.in-Frame.frame in
    subst (λ (t : Option Agreed). IsRefreshBy t octets c.tell_refresh.result c.args.out.now c.tell_refresh.new.out) c.in-Some.ensures.value (record {
      found = step.Frame frame;
      shows = c.in-Frame.ensures;
      says = says (wide_terms c.in-Some.agreed) octets frame.kind frame.len frame.body.now c.tell_refresh.result c.args.out.now c.tell_refresh.new.out c.in-Frame.ensures c.tell_refresh.ensures;
    })
