use Rattle.std.proofs.Common.{◌≡◌, [], ◌++◌, ap, ◌∙◌, List, ℕ}
use Rattle.bgp_wire.specs.Prelude.{pieces}
use Rattle.bgp_open.specs.Prelude.{one_capability, capabilities_of, capability_value}
use Rattle.bgp_open.proofs.CapabilityIters.{none_begun, goes_on, is_over, begins, ends, smaller}
use Rattle.bgp_open.proofs.capability_iter.CapabilityIter.begin.Goals as goal

pub returns-in-Some-first_capability : goal.returns-in-Some-first_capability
returns-in-Some-first_capability c =
    c.parameter.invariant.1 ∙ begins c.parameter.self.later.now c.in-Some.later.now _ c.in-Some.ensures
    ∙ goes_on c.in-Some.value.now c.in-Some-first_capability.rest.now (capability_value c.in-Some-first_capability.capability) (capabilities_of c.in-Some.later.now) c.in-Some-first_capability.ensures

pub parameter-smaller : goal.parameter-smaller
parameter-smaller c = smaller c.parameter.self.later.now c.in-Some.later.now _ c.in-Some.ensures

pub parameter-preserved : goal.parameter-preserved
parameter-preserved c = (
  c.parameter.invariant.0,
  c.parameter.invariant.1 ∙ begins c.parameter.self.later.now c.in-Some.later.now _ c.in-Some.ensures
      ∙ is_over c.in-Some.value.now (capabilities_of c.in-Some.later.now) c.in_default-first_capability.ensures,
)

pub returns : goal.returns
returns c =
    let none : capabilities_of c.parameter.self.later.now ≡ [] = ends c.parameter.self.later.now c.in_default.ensures in (
      c.parameter.invariant.1 ∙ none,
      ap (λ (b : List ℕ). (pieces one_capability b).0 ++ capabilities_of c.parameter.self.later.now) c.parameter.invariant.0 ∙ none_begun (capabilities_of c.parameter.self.later.now) ∙ none,
    )
