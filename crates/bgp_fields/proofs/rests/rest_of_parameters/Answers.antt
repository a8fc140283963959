use Rattle.bgp_fields.proofs.Prelude.{List, sym, ◌∙◌, arith, Capability, IsParameter, one_parameter, parameter-reads}
use Rattle.bgp_fields.proofs.Leftovers.{rest-same, rest-shorter, rest-all}
use Rattle.bgp_fields.proofs.rests.rest_of_parameters.Goals as goal

pub row-smaller : goal.row-smaller
row-smaller c = rest-shorter (List Capability) IsParameter one_parameter parameter-reads c.row.rest.now c.in-Some.after.now c.in-Some.ensures

pub row-preserved : goal.row-preserved
row-preserved c = (
  rest-same (List Capability) IsParameter one_parameter parameter-reads c.row.rest.now c.in-Some.after.now c.in-Some.ensures ∙ c.row.invariant.0,
  omega (arith, c.row.invariant.1, rest-shorter (List Capability) IsParameter one_parameter parameter-reads c.row.rest.now c.in-Some.after.now c.in-Some.ensures),
)

pub returns-clause-value : goal.returns-clause-value
returns-clause-value c = sym (rest-all (List Capability) IsParameter one_parameter parameter-reads c.row.rest.now c.in_default.ensures) ∙ c.row.invariant.0
