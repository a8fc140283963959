use Rattle.bgp_wire.proofs.Std.{◌≡◌, ◌+◌, ◌<◌, get_or, length, true, refl, sym, subst, List, arith, AllByRecursion, flat_map, err_from_is_err_and}
use Rattle.bgp_attr.specs.declared.attr.Attr.{Attr}
use Rattle.bgp_attr.specs.Prelude.{canonical, is_writable}
use Rattle.bgp_update.specs.Prelude.{slot}
use Rattle.bgp_update.proofs.SlotSteps.{so_far, all_of_type, type_written, type_lacks, written_more, asks_nothing}
use Rattle.bgp_update.proofs.body_writing.put_attributes.Goals as goal

pub put_attribute-requires : goal.put_attribute-requires
put_attribute-requires g c =
    let attrs = g.S.HasAttributes.attrs c.args.attrs.now in
    let kinds = c.types-kinds.result.now in
    let lt : c.types.kind-index < length kinds = omega (arith, c.types-test.true) in
    let writable =
    all_of_type (slot attrs) kinds c.types.kind-index (get_or kinds c.types.kind-index 0) lt refl
    (λ a. is_writable c.args.ctx.now a ≡ true)
    (subst (λ (xs : List Attr). AllByRecursion (λ a. is_writable c.args.ctx.now a ≡ true) xs) (sym c.types-kinds.ensures) c.requires) in
    λ k. ((refl, tt), writable)

pub returns-in_err-put_attribute-clause-err : goal.returns-in_err-put_attribute-clause-err
returns-in_err-put_attribute-clause-err g c =
    let written = g.O.Output.written in
    let attrs = g.S.HasAttributes.attrs c.args.attrs.now in
    let p = err_from_is_err_and c.from_residual.result c.from_residual.ensures.1 in
    rw p.1 (written_more (canonical c.args.ctx.now) (λ a. Unit {0}) (so_far (slot attrs) c.types-kinds.result.now c.types.kind-index) (written c.args.out.now) (written c.types.out) (written c.put_attribute.new.out) c.types.invariant c.in_err-put_attribute.ensures.err)

pub returns-in_err-put_attribute-clause-full : goal.returns-in_err-put_attribute-clause-full
returns-in_err-put_attribute-clause-full g c =
    let written = g.O.Output.written in
    let attrs = g.S.HasAttributes.attrs c.args.attrs.now in
    let kinds = c.types-kinds.result.now in
    let kind = get_or kinds c.types.kind-index 0 in
    let lt : c.types.kind-index < length kinds = omega (arith, c.types-test.true) in
    let p = err_from_is_err_and c.from_residual.result c.from_residual.ensures.1 in
    rw p.1 (subst (λ (xs : List Attr). g.O.Output.room < length (written c.args.out.now) + length (flat_map (canonical c.args.ctx.now) xs)) c.types-kinds.ensures
    (type_lacks (slot attrs) kinds c.types.kind-index kind lt refl (canonical c.args.ctx.now) (λ (a : Attr). Unit {0}) (written c.args.out.now) (written c.types.out) c.types.invariant
    g.O.Output.room c.in_err-put_attribute.ensures.full))

pub types-preserved : goal.types-preserved
types-preserved g c =
    let written = g.O.Output.written in
    let attrs = g.S.HasAttributes.attrs c.args.attrs.now in
    let kinds = c.types-kinds.result.now in
    let kind = get_or kinds c.types.kind-index 0 in
    let lt : c.types.kind-index < length kinds = omega (arith, c.types-test.true) in
    type_written (slot attrs) kinds c.types.kind-index kind lt refl (canonical c.args.ctx.now) (λ (a : Attr). Unit {0}) (written c.args.out.now) (written c.types.out) c.types.invariant (written c.put_attribute.new.out)
    c.in_ok-put_attribute.ensures.ok (asks_nothing (slot attrs kind))
