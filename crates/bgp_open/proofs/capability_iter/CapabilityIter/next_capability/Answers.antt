use Rattle.std.proofs.Common.{MatchOption, ◌≡◌, [], ◌∷◌, List, sym, subst}
use Rattle.bgp_open.specs.declared.capability.Capability.{Capability}
use Rattle.bgp_open.specs.Prelude.{capabilities_of, capabilities_left, capability_value}
use Rattle.bgp_open.proofs.CapabilityIters.{goes_on, is_over}
use Rattle.bgp_open.proofs.capability_iter.CapabilityIter.next_capability.Goals as goal

pub returns-in-Some : goal.returns-in-Some
returns-in-Some c = goes_on c.args.self.now.begun.now c.in-Some.rest.now (capability_value c.in-Some.capability) (capabilities_of c.args.self.now.later.now) c.in-Some.ensures

pub returns : goal.returns
returns c =
    subst (λ (z : List Capability). MatchOption c.begin.result ((z ≡ []) × (capabilities_left c.begin.new.self ≡ [])) (λ a. z ≡ capability_value a ∷ capabilities_left c.begin.new.self))
    (sym (is_over c.args.self.now.begun.now (capabilities_of c.args.self.now.later.now) c.in_default.ensures)) c.begin.ensures
