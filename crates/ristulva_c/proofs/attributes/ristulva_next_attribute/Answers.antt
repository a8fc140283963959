use Rattle.ristulva_c.proofs.TlvSteps.{attributes_behind, no_attributes}
use Rattle.ristulva_c.proofs.attributes.ristulva_next_attribute.Goals as goal

pub returns-in-None-clause-over : goal.returns-in-None-clause-over
returns-in-None-clause-over c over = no_attributes c.args.octets.now _ c.args.cursor.now c.in-Some.ensures.lookup.0.2 c.in-None.ensures

pub returns-in-Some-tlv_at-clause-ok : goal.returns-in-Some-tlv_at-clause-ok
returns-in-Some-tlv_at-clause-ok c ok =
    let found = c.in-Some.ensures.lookup.0 in
    attributes_behind c.args.octets.now _ c.args.cursor.now _ _ _ _ (record { in_order = found.0; within = found.1 }) found.2 c.in-Some-tlv_at.ensures
