use Rattle.ristulva_c.proofs.Below.{◌≡◌, ℕ, sym, ap, subst}
use Rattle.bgp_frame.specs.declared.kind.WideKind.{WideKind}
use Rattle.bgp_frame.specs.Step.{StepIn}
use Rattle.bgp_frame.specs.Prelude.{ShowsFrontIn}
use Rattle.bgp_terms.specs.Prelude.{wide_terms}
use Rattle.bgp_wide.specs.Prelude.{grammar_of, types_in}
use Rattle.ristulva_c.specs.declared.front.ToldFront.{ToldFront}
use Rattle.ristulva_c.specs.declared.front.TheConstants.{MORE}
use Rattle.ristulva_c.specs.FrontIn.{step_told_in}
use Rattle.ristulva_c.specs.Span.{no_span}
use Rattle.ristulva_c.proofs.front_in.step_told_in.Goals as goal

abbrev more : ℕ → ToldFront
more len = record { what = MORE; kind = 0; code = 0; subcode = 0; len = len; info = no_span }

pub returns-in-More : goal.returns-in-More
returns-in-More c =
    let t = wide_terms c.args.terms.now in
    let octets = c.args.octets.now in
    let waits = subst (λ (s : StepIn WideKind). ShowsFrontIn (types_in t) octets s) c.in-More.is c.requires in
    subst (λ (s : StepIn WideKind). more c.wanted.result ≡ step_told_in t octets s) (sym c.in-More.is) (ap more (c.wanted.ensures (grammar_of t.refresh) waits))
