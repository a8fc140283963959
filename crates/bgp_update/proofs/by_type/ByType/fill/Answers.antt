use Rattle.bgp_wire.proofs.Std.{[], refl, ap, ◌∙◌, flat_map}
use Rattle.bgp_attr.specs.Prelude.{attr_value}
use Rattle.bgp_update.specs.Prelude.{attrs_left, as_opaque, rising_behind}
use Rattle.bgp_update.proofs.Placing.{others_step, others_all}
use Rattle.bgp_update.proofs.Rising.{of_kind}
use Rattle.bgp_update.proofs.by_type.ByType.fill.Goals as goal

pub field-init : goal.field-init
field-init c = ([], c.requires, refl)

pub field-preserved : goal.field-preserved
field-preserved c =
    let so_far = c.field.invariant in
    let now = rising_behind so_far.0 (as_opaque (attr_value c.in-Some.attr)) in (
      now,
      c.add.ensures so_far.0 so_far.1,
      others_step so_far.0 now (rising_behind [] (flat_map as_opaque (attrs_left c.args.kept))) (attr_value c.in-Some.attr)
          (attrs_left c.field.left) (attrs_left c.next.new.self) refl c.in-Some.ensures.steps so_far.2,
    )

pub returns : goal.returns
returns c =
    let so_far = c.field.invariant in
    λ k. so_far.1 k ∙ ap (of_kind k) (others_all so_far.0 (rising_behind [] (flat_map as_opaque (attrs_left c.args.kept))) (attrs_left c.field.left) c.in_default.ensures.steps.0 so_far.2)
