use Rattle.bgp_fields.proofs.Prelude.{sym, ◌∙◌, Capability, IsCapability, one_capability, capability-reads}
use Rattle.bgp_fields.proofs.Leftovers.{rest-same, rest-shorter, rest-all}
use Rattle.bgp_fields.proofs.rests.rest_of_capabilities.Goals as goal

pub row-smaller : goal.row-smaller
row-smaller c = rest-shorter Capability IsCapability one_capability capability-reads c.row.rest.now c.in-Some.after.now c.in-Some.ensures

pub row-preserved : goal.row-preserved
row-preserved c = rest-same Capability IsCapability one_capability capability-reads c.row.rest.now c.in-Some.after.now c.in-Some.ensures ∙ c.row.invariant

pub returns : goal.returns
returns c = sym (rest-all Capability IsCapability one_capability capability-reads c.row.rest.now c.in_default.ensures) ∙ c.row.invariant
