use Rattle.bgp_wire.proofs.Std.{sym, ◌∙◌}
use Rattle.std.proofs.lemmas.Bool.{eq-eqb, ne_eqb}
use Rattle.bgp_attr.specs.Prelude.{is_zero}
use Rattle.bgp_attr.proofs.NumberSteps.{number_shorter, any_number_first, any_number_later, any_number_none}
use Rattle.bgp_attr.proofs.segment.has_zero.Goals as goal

pub row-smaller : goal.row-smaller
row-smaller c = number_shorter c.args.wide c.row.rest.now c.in-Some.number c.in-Some.after.now c.in-Some.ensures

pub returns-then-number-eq0 : goal.returns-then-number-eq0
returns-then-number-eq0 c =
    sym (any_number_first c.args.wide c.row.rest.now is_zero c.in-Some.number c.in-Some.after.now c.in-Some.ensures (eq-eqb _ _ c.if-number-eq0.true)) ∙ c.row.invariant

pub row-preserved : goal.row-preserved
row-preserved c =
    any_number_later c.args.wide c.row.rest.now is_zero c.in-Some.number c.in-Some.after.now c.in-Some.ensures (ne_eqb _ _ c.if-number-eq0.false) ∙ c.row.invariant

pub returns : goal.returns
returns c = sym (any_number_none c.args.wide c.row.rest.now is_zero c.in_default.ensures) ∙ c.row.invariant
