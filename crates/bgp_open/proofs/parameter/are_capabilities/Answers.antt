use Rattle.std.proofs.Common.{◌≡◌, ℕ, List, length, eqb, sym, ap, ◌∙◌}
use Rattle.bgp_wire.specs.Prelude.{pieces}
use Rattle.bgp_open.specs.declared.capability.Capability.{Capability}
use Rattle.bgp_open.specs.Prelude.{IsCapability, one_capability, capability_value}
use Rattle.bgp_open.proofs.Capabilities.{capability-reads}
use Rattle.bgp_wire.proofs.Walks.{shorter, same_rest, all_rest}
use Rattle.bgp_open.proofs.parameter.are_capabilities.Goals as goal

pub row-preserved : goal.row-preserved
row-preserved c = same_rest Capability IsCapability one_capability capability-reads c.row.rest.now (capability_value c.in-Some.field-0-0) c.in-Some.after.now c.in-Some.ensures ∙ c.row.invariant

pub row-smaller : goal.row-smaller
row-smaller c = shorter Capability IsCapability one_capability capability-reads c.row.rest.now (capability_value c.in-Some.field-0-0) c.in-Some.after.now c.in-Some.ensures

pub returns : goal.returns
returns c =
    let same : (pieces one_capability c.args.octets.now).1 ≡ c.row.rest.now = sym c.row.invariant ∙ all_rest Capability IsCapability one_capability capability-reads c.row.rest.now c.in_default.ensures in
    c.is_empty.ensures ∙ ap (λ (x : List ℕ). eqb (length x) 0) (sym same)
