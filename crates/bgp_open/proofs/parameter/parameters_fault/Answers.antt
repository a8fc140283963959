use Rattle.std.proofs.Common.{◌≡◌, sym, ap, ◌∙◌, List}
use Rattle.bgp_wire.specs.Prelude.{pieces}
use Rattle.bgp_open.specs.declared.capability.Capability.{Capability}
use Rattle.bgp_open.specs.Prelude.{one_capability, IsParameter, one_parameter, rest_fault}
use Rattle.bgp_open.proofs.Parameters.{parameter-reads}
use Rattle.bgp_wire.proofs.Walks.{shorter, same_rest, all_rest}
use Rattle.bgp_open.proofs.parameter.parameters_fault.Goals as goal

pub row-preserved : goal.row-preserved
row-preserved c = same_rest (List Capability) IsParameter one_parameter parameter-reads c.row.rest.now (pieces one_capability c.in-Some.field-0-0.now).0 c.in-Some.after.now c.in-Some.ensures ∙ c.row.invariant

pub row-smaller : goal.row-smaller
row-smaller c = shorter (List Capability) IsParameter one_parameter parameter-reads c.row.rest.now (pieces one_capability c.in-Some.field-0-0.now).0 c.in-Some.after.now c.in-Some.ensures

pub returns : goal.returns
returns c =
    let same : (pieces one_parameter c.args.octets.now).1 ≡ c.row.rest.now = sym c.row.invariant ∙ all_rest (List Capability) IsParameter one_parameter parameter-reads c.row.rest.now c.in_default.ensures in
    c.rest_fault.ensures ∙ ap rest_fault (sym same)
