use Rattle.std.proofs.Common.{sym, ◌∙◌}
use Rattle.bgp_wire.proofs.Walks.{shorter, same_rest, all_rest}
use Rattle.bgp_attr.specs.Prelude.{TlvValue, IsTlv, one_tlv}
use Rattle.bgp_attr.proofs.Readers.{IsTlv-reads}
use Rattle.bgp_attr.proofs.first_tlv.skip_tlvs.Goals as goal

pub field-preserved : goal.field-preserved
field-preserved c = same_rest TlvValue IsTlv one_tlv IsTlv-reads c.field.rest.now _ c.in-Some.after.now c.in-Some.ensures.found ∙ c.field.invariant

pub field-smaller : goal.field-smaller
field-smaller c = shorter TlvValue IsTlv one_tlv IsTlv-reads c.field.rest.now _ c.in-Some.after.now c.in-Some.ensures.found

pub returns : goal.returns
returns c = sym (all_rest TlvValue IsTlv one_tlv IsTlv-reads c.field.rest.now c.in_default.ensures.found) ∙ c.field.invariant
