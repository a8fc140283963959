use Rattle.bgp_wire.proofs.Std.{◌+◌, ◌<◌, get_or, take, length, List, ap, refl, ◌∙◌, arith, flat_map}
use Rattle.bgp_attr.specs.declared.attr.Attr.{Attr}
use Rattle.bgp_attr.specs.Prelude.{ref_value}
use Rattle.bgp_update.specs.declared.failed.Failed.{Failed}
use Rattle.bgp_update.specs.Prelude.{failed_by, also_failed, slot}
use Rattle.bgp_update.proofs.SlotSteps.{so_far, one_type, all_walked}
use Rattle.bgp_update.proofs.FailedSteps.{with_one, with_none}
use Rattle.bgp_update.proofs.failed.Failed.of.Goals as goal
use Rattle.bgp_update.proofs.failed.Failed.of.Goals.{in-Some, in_default}

pub types-preserved : goal.types-preserved
types-preserved c =
    let i = c.types.kind-index in
    let slots = slot c.args.attrs.now in
    let kinds = c.types_of-kinds.result.now in
    let kind = get_or kinds i 0 in
    let lt : i < length kinds = omega (arith, c.types-test.true) in
    let are = one_type slots kinds i kind lt refl in
    elim c.match-slot.branch [
      | in-Some w ↦
          w.failed-is ∙ w.also-failed.ensures ∙ ap (λ (f : Failed). also_failed f c.args.ctx.now (ref_value w.in-Some.attr)) c.types.invariant
          ∙ with_one c.args.ctx.now (so_far slots kinds i) (slots kind) (flat_map slots (take (i + 1) kinds)) are (ref_value w.in-Some.attr) w.in-Some.ensures
      | in_default w ↦
          w.failed-is ∙ c.types.invariant
          ∙ with_none c.args.ctx.now (so_far slots kinds i) (slots kind) (flat_map slots (take (i + 1) kinds)) are w.in_default.ensures
    ]

pub returns : goal.returns
returns c =
    c.types.invariant
    ∙ ap (λ (xs : List Attr). failed_by c.args.ctx.now xs) (all_walked (slot c.args.attrs.now) c.types_of-kinds.result.now c.types.kind-index (omega (arith, c.types-test.false)) ∙ c.types_of-kinds.ensures)
