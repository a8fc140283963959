use Rattle.ristulva_c.proofs.Below.{List, length, ap, arith, filter, Attr, has_octet, kept_of, view_marks}
use Rattle.ristulva_c.specs.Prelude.{is_left_out}
use Rattle.ristulva_c.proofs.LeftOut.{few_left_out, kept_left_out}
use Rattle.ristulva_c.proofs.left_out.others_left_out.Goals as goal

pub overflow_add-count : goal.overflow_add-count
overflow_add-count c = omega (arith, c.kept.invariant, few_left_out (has_octet c.args.drops.now) c.args.view.now)

pub returns : goal.returns
returns c =
    let drops = has_octet c.args.drops.now in
    omega (
      arith,
      c.kept.invariant,
      ap (λ (xs : List Attr). length (filter (is_left_out drops) xs)) c.in_default.ensures.steps.0,
      kept_left_out drops (kept_of (view_marks c.args.view.now)),
    )
