use Rattle.ristulva_c.proofs.Below.{List, length, ap, arith, filter, Attr, kept_of, is_opaque, view_marks}
use Rattle.ristulva_c.proofs.LeftOut.{few_others, all_others}
use Rattle.ristulva_c.proofs.others.count_others.Goals as goal

pub overflow_add-count : goal.overflow_add-count
overflow_add-count c = omega (arith, c.kept.invariant, few_others c.args.view.now)

pub returns-clause-count : goal.returns-clause-count
returns-clause-count c =
    omega (arith, c.kept.invariant, ap (λ (xs : List Attr). length (filter is_opaque xs)) c.in_default.ensures.steps.0, all_others (kept_of (view_marks c.args.view.now)))

pub returns-clause-few : goal.returns-clause-few
returns-clause-few c = omega (arith, c.kept.invariant, few_others c.args.view.now)
