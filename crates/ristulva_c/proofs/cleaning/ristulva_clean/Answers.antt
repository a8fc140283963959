use Rattle.bgp_wire.specs.Prelude.{has_octet}
use Rattle.bgp_frame.specs.declared.step.Step.TheVariants as step
use Rattle.ristulva_c.specs.Prelude.{types_in, context_of, is_set}
use Rattle.ristulva_c.proofs.Cleanings.{handed_on, handed_on_by}
use Rattle.ristulva_c.proofs.cleaning.ristulva_clean.Goals as goal

pub returns-in-Frame : goal.returns-in-Frame
returns-in-Frame c =
    let ctx = context_of c.args.ctx.now in
    let drops = types_in c.args.types.now in
    handed_on_by ctx c.context_of.result drops (has_octet c.set_of-drops.result) (is_set c.args.first) c.args.octets.now (step.Frame c.in-Frame.frame) _ c.context_of.ensures
    c.set_of-drops.ensures c.are_octets.ensures c.in-Frame.ensures c.tell_frame.ensures

pub returns-in-Fault : goal.returns-in-Fault
returns-in-Fault c =
    let ctx = context_of c.args.ctx.now in
    let drops = types_in c.args.types.now in
    let first = is_set c.args.first in
    handed_on ctx drops first c.args.octets.now (step.Fault c.in-Fault.fault) _ c.are_octets.ensures c.in-Fault.ensures (c.tell_fault.ensures ctx drops first)
