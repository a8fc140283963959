use Rattle.bgp_clean.proofs.Prelude.{sym, subst, has_octet, refuses_in}
use Rattle.bgp_frame.specs.declared.kind.WideKind.{WideKind}
use Rattle.bgp_terms.specs.Prelude.{wide_terms}
use Rattle.bgp_clean.specs.Prelude.{IsCleanedIn, cleaned_kind}
use Rattle.std.proofs.lemmas.Result.{IfOk-weaker}
use Rattle.std.proofs.Common.{IfOk}
use Rattle.bgp_clean.proofs.Wides.{cleaned_base}
use Rattle.bgp_clean.proofs.wide.clean_in.Goals as goal

pub returns-in-Base-clause-value : goal.returns-in-Base-clause-value
returns-in-Base-clause-value g c =
    let terms = wide_terms c.args.terms.now in
    let refuses = refuses_in c.args.terms.now.context c.args.limits.now in
    subst (λ (k : WideKind). IfOk c.clean_with.result (IsCleanedIn terms (cleaned_kind c.args.offers terms (has_octet c.args.drops.now) refuses c.args.first k c.args.frame.body.now) (g.O.Output.written c.args.out.now) (g.O.Output.written c.clean_with.new.out)))
    (sym c.in-Base.is) (IfOk-weaker c.clean_with.result _ _ (λ cleaned is. cleaned_base terms _ _ _ cleaned is) c.clean_with.ensures.value)
