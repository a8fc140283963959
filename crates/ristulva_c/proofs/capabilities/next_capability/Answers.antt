use Rattle.ristulva_c.proofs.Below.{◌≡◌, None, sym, ap, subst, ◌∙◌, arith, one_capability, one_parameter}
use Rattle.ristulva_c.specs.declared.capabilities.Capabilities.{Capabilities}
use Rattle.ristulva_c.specs.Prelude.{IsCapabilities, capabilities_left, between}
use Rattle.ristulva_c.proofs.CapabilitySteps.{given_before, later_fits, none_left, passes}
use Rattle.ristulva_c.proofs.capabilities.next_capability.Goals as goal

pub parameter-smaller : goal.parameter-smaller
parameter-smaller c =
    let same = c.in_default.ensures.0 in
    let lies = subst (IsCapabilities c.args.octets.now) (sym same) c.parameter.invariant.lies in
    let fits = later_fits c.args.octets.now c.begun.new.cursor _ _ lies c.in-Some-first_parameter.ensures in
    omega (arith, fits, ap (λ (x : Capabilities). x.stop) same, ap (λ (x : Capabilities). x.end) same)

pub returns-in-Some : goal.returns-in-Some
returns-in-Some c =
    given_before c.args.octets.now c.args.cursor.now c.parameter.cursor c.begun.new.cursor c.in-Some.told c.parameter.invariant.left c.parameter.invariant.same c.in-Some.ensures

pub returns-in_default-first_parameter : goal.returns-in_default-first_parameter
returns-in_default-first_parameter c =
    let b = c.args.octets.now in
    sym c.parameter.invariant.left
    ∙ none_left b c.parameter.cursor c.in_default.ensures.1
    (subst (λ (x : Capabilities). one_parameter (between b x.stop x.end) ≡ None) c.in_default.ensures.0 (sym c.in_default-first_parameter.ensures))

pub parameter-preserved : goal.parameter-preserved
parameter-preserved c =
    let b = c.args.octets.now in
    let same = c.in_default.ensures.0 in
    let lies = subst (IsCapabilities b) (sym same) c.parameter.invariant.lies in
    let none = subst (λ (x : Capabilities). one_capability (between b x.at x.stop) ≡ None) (sym same) c.in_default.ensures.1 in
    let fits = later_fits b c.begun.new.cursor _ _ lies c.in-Some-first_parameter.ensures in
    let passed = passes b c.begun.new.cursor _ _ _ lies none c.in-Some-first_parameter.ensures (omega (arith, fits)) in
    record {
      lies = passed.0;
      left = passed.1 ∙ ap (capabilities_left b) same ∙ c.parameter.invariant.left;
      same = ap (λ (x : Capabilities). x.end) same ∙ c.parameter.invariant.same;
    }
