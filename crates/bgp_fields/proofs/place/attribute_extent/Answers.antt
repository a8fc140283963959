use Rattle.bgp_fields.proofs.Prelude.{◌≤◌, length, sym, subst, ◌∙◌, ℕ, tlvs_left, placed_tlv}
use Rattle.bgp_fields.proofs.Extents.{extent-some, extent-none, extent-short}
use Rattle.bgp_fields.proofs.place.attribute_extent.Goals as goal

pub returns-in-Some-clause-value : goal.returns-in-Some-clause-value
returns-in-Some-clause-value c =
    extent-some c.args.octets.now (placed_tlv c.in-Some.tlv) (tlvs_left c.next.new.self) (sym c.new-tlvs.ensures.attributes ∙ c.in-Some.ensures.steps.0)

pub returns-in-None-clause-value : goal.returns-in-None-clause-value
returns-in-None-clause-value c = extent-none c.args.octets.now (sym c.new-tlvs.ensures.attributes ∙ c.in-None.ensures.steps.0.0)

pub returns-in-Some-clause-within : goal.returns-in-Some-clause-within
returns-in-Some-clause-within c =
    subst (λ (n : ℕ). n ≤ length c.args.octets.now)
    (sym (extent-some c.args.octets.now (placed_tlv c.in-Some.tlv) (tlvs_left c.next.new.self) (sym c.new-tlvs.ensures.attributes ∙ c.in-Some.ensures.steps.0)))
    (extent-short c.args.octets.now)
