use Rattle.bgp_wire.proofs.Std.{◌≡◌, ◌+◌, ◌<◌, ◌++◌, get_or, length, false, refl, sym, ap, ◌∙◌, subst, List, arith, AllByRecursion, flat_map, err_from_is_err_and}
use Rattle.bgp_attr.specs.declared.attr.Attr.{Attr}
use Rattle.bgp_attr.specs.Prelude.{canonical, is_empty, HasRanges}
use Rattle.bgp_update.specs.Prelude.{slot}
use Rattle.bgp_update.proofs.SlotSteps.{so_far, all_of_type, all_walked, type_written, type_lacks, written_more}
use Rattle.bgp_update.proofs.put.put_attributes.Goals as goal

pub put_present-requires-clause-filled : goal.put_present-requires-clause-filled
put_present-requires-clause-filled g c =
    let kinds = c.types_of-kinds.result.now in
    let lt : c.types.kind-index < length kinds = omega (arith, c.types-test.true) in
    let Filled : List Attr → Type 0 = λ xs. AllByRecursion (λ a. is_empty a ≡ false) xs in
    subst Filled (sym c.slot.ensures)
    (all_of_type (slot c.args.attrs.now) kinds c.types.kind-index (get_or kinds c.types.kind-index 0) lt refl
    (λ a. is_empty a ≡ false) (subst Filled (sym c.types_of-kinds.ensures) c.requires.filled))

pub returns-in_err-put_present-clause-err : goal.returns-in_err-put_present-clause-err
returns-in_err-put_present-clause-err g c =
    let written = g.O.Output.written in
    let p = err_from_is_err_and c.from_residual.result c.from_residual.ensures.1 in
    rw p.1 (written_more (canonical c.args.ctx.now) HasRanges (so_far (slot c.args.attrs.now) c.types_of-kinds.result.now c.types.kind-index) (written c.args.out.now) (written c.types.out) (written c.put_present.new.out) c.types.invariant c.in_err-put_present.ensures.err)

pub returns-in_err-put_present-clause-full : goal.returns-in_err-put_present-clause-full
returns-in_err-put_present-clause-full g c =
    let written = g.O.Output.written in
    let kinds = c.types_of-kinds.result.now in
    let kind = get_or kinds c.types.kind-index 0 in
    let lt : c.types.kind-index < length kinds = omega (arith, c.types-test.true) in
    let octets = canonical c.args.ctx.now in
    let p = err_from_is_err_and c.from_residual.result c.from_residual.ensures.1 in
    rw p.1 (subst (λ (xs : List Attr). g.O.Output.room < length (written c.args.out.now) + length (flat_map octets xs)) c.types_of-kinds.ensures
    (type_lacks (slot c.args.attrs.now) kinds c.types.kind-index kind lt refl octets HasRanges (written c.args.out.now) (written c.types.out) c.types.invariant
    g.O.Output.room (subst (λ (xs : List Attr). g.O.Output.room < length (written c.types.out) + length (flat_map octets xs)) c.slot.ensures c.in_err-put_present.ensures.full)))

pub types-preserved : goal.types-preserved
types-preserved g c =
    let written = g.O.Output.written in
    let slots = slot c.args.attrs.now in
    let kinds = c.types_of-kinds.result.now in
    let kind = get_or kinds c.types.kind-index 0 in
    let lt : c.types.kind-index < length kinds = omega (arith, c.types-test.true) in
    let octets = canonical c.args.ctx.now in
    type_written slots kinds c.types.kind-index kind lt refl octets HasRanges (written c.args.out.now) (written c.types.out) c.types.invariant (written c.put_present.new.out)
    (subst (λ (xs : List Attr). written c.put_present.new.out ≡ written c.types.out ++ flat_map octets xs) c.slot.ensures c.in_ok-put_present.ensures.ok)
    (subst (AllByRecursion HasRanges) c.slot.ensures c.in_ok-put_present.ensures.ranges)

pub returns-clause-ok : goal.returns-clause-ok
returns-clause-ok g c =
    c.types.invariant.items
    ∙ ap (λ (xs : List Attr). g.O.Output.written c.args.out.now ++ flat_map (canonical c.args.ctx.now) xs)
    (all_walked (slot c.args.attrs.now) c.types_of-kinds.result.now c.types.kind-index c.types-test.false ∙ c.types_of-kinds.ensures)

pub returns-clause-ranges : goal.returns-clause-ranges
returns-clause-ranges g c =
    subst (AllByRecursion HasRanges) (all_walked (slot c.args.attrs.now) c.types_of-kinds.result.now c.types.kind-index c.types-test.false ∙ c.types_of-kinds.ensures) c.types.invariant.ranges
