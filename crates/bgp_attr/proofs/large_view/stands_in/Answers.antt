use Rattle.std.proofs.Common.{sym, ◌∙◌}
use Rattle.bgp_attr.specs.Prelude.{same_triple}
use Rattle.bgp_attr.proofs.LargeSteps.{triple_shorter, any_triple_first, any_triple_later, any_triple_none}
use Rattle.bgp_attr.proofs.large_view.stands_in.Goals as goal

pub returns-then-is_same : goal.returns-then-is_same
returns-then-is_same c =
    sym (any_triple_first c.row.rest.now (same_triple c.args.triple) c.in-Some.found.0 c.in-Some.found.1.now c.in-Some.ensures
    (sym c.is_same.ensures ∙ c.if-is_same.true))
    ∙ c.row.invariant

pub row-smaller : goal.row-smaller
row-smaller c = triple_shorter c.row.rest.now c.in-Some.found.0 c.in-Some.found.1.now c.in-Some.ensures

pub row-preserved : goal.row-preserved
row-preserved c =
    any_triple_later c.row.rest.now (same_triple c.args.triple) c.in-Some.found.0 c.in-Some.found.1.now c.in-Some.ensures
    (sym c.is_same.ensures ∙ c.if-is_same.false)
    ∙ c.row.invariant

pub returns : goal.returns
returns c = sym (any_triple_none c.row.rest.now (same_triple c.args.triple) c.in_default.ensures) ∙ c.row.invariant
