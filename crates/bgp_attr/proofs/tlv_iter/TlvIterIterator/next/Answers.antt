use Rattle.std.proofs.Common.{ap, ◌∙◌, refl, rules}
use Rattle.bgp_attr.specs.Prelude.{one_tlv, tlv_value}
use Rattle.bgp_attr.proofs.TlvSteps.{none_placed, rest_within, first_placed, stands, rest_stays}
use Rattle.bgp_attr.proofs.tlv_iter.TlvIterIterator.next.Goals as goal

pub returns-in_err-tlv-clause-steps : goal.returns-in_err-tlv-clause-steps
returns-in_err-tlv-clause-steps c =
    let none = none_placed c.args.self.now.field.now c.args.self.now.at (c.in_err-tlv.ensures.found ∙ ap one_tlv c.split_at.ensures.back) in
    rw c.from_residual.ensures ((none, none), refl, (refl, tt))

pub overflow_sub-self : goal.overflow_sub-self
overflow_sub-self c = rest_within c.args.self.now.field.now c.args.self.now.at c.args.self.now.within (tlv_value c.in_ok-tlv.tlv) c.in_ok-tlv.rest.now (c.in_ok-tlv.ensures.found ∙ ap one_tlv c.split_at.ensures.back)

pub returns-clause-steps : goal.returns-clause-steps
returns-clause-steps c = (
  first_placed c.args.self.now.field.now c.args.self.now.at c.args.self.now.within (tlv_value c.in_ok-tlv.tlv) c.in_ok-tlv.rest.now (c.in_ok-tlv.ensures.found ∙ ap one_tlv c.split_at.ensures.back) c.in_ok-tlv.tlv.at c.in_ok-tlv.ensures.at,
  rest_stays c.args.self.now.field.now c.args.self.now.at c.args.self.now.within (tlv_value c.in_ok-tlv.tlv) c.in_ok-tlv.rest.now (c.in_ok-tlv.ensures.found ∙ ap one_tlv c.split_at.ensures.back),
  (refl, stands c.args.self.now.field.now c.args.self.now.at c.args.self.now.within (tlv_value c.in_ok-tlv.tlv) c.in_ok-tlv.rest.now (c.in_ok-tlv.ensures.found ∙ ap one_tlv c.split_at.ensures.back) c.in_ok-tlv.tlv.at c.in_ok-tlv.ensures.at),
)

pub returns-clause-goes : goal.returns-clause-goes
returns-clause-goes c =
    let steps = first_placed c.args.self.now.field.now c.args.self.now.at c.args.self.now.within (tlv_value c.in_ok-tlv.tlv) c.in_ok-tlv.rest.now (c.in_ok-tlv.ensures.found ∙ ap one_tlv c.split_at.ensures.back) c.in_ok-tlv.tlv.at c.in_ok-tlv.ensures.at in
    search rules
