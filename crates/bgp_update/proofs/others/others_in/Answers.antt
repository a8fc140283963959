use Rattle.bgp_wire.proofs.Std.{[], map, flat_map}
use Rattle.bgp_attr.specs.Prelude.{opaque_value}
use Rattle.bgp_update.specs.Prelude.{attrs_left, as_opaque, rising_behind}
use Rattle.bgp_update.proofs.Placing.{others_step, others_all}
use Rattle.bgp_update.proofs.others.others_in.Goals as goal

pub field-preserved : goal.field-preserved
field-preserved c =
    others_step (map opaque_value c.field.others) (map opaque_value c.add_other.new.others) (rising_behind [] (flat_map as_opaque (attrs_left c.args.kept))) _
    (attrs_left c.field.left) (attrs_left c.next.new.self) c.in_ok-add_other.ensures c.in-Some.ensures.steps c.field.invariant

pub returns : goal.returns
returns c =
    others_all (map opaque_value c.field.others) (rising_behind [] (flat_map as_opaque (attrs_left c.args.kept))) (attrs_left c.field.left)
    c.in_default.ensures.steps.0 c.field.invariant
