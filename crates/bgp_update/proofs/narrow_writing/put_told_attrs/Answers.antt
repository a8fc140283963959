use Rattle.bgp_wire.proofs.Std.{◌≡◌, ◌<◌, ◌++◌, get_or, length, true, refl, sym, ap, ◌∙◌, subst, List, [], ◌∷◌, arith, flat_map, AllByRecursion, err_from_is_err_and}
use Rattle.bgp_attr.specs.declared.attr.Attr.{Attr}
use Rattle.bgp_attr.specs.Prelude.{canonical, is_writable}
use Rattle.bgp_update.specs.Prelude.{slot, told_attrs}
use Rattle.bgp_update.proofs.SlotSteps.{so_far, all_of_type, all_walked, type_written, written_more}
use Rattle.bgp_update.proofs.narrow_writing.put_told_attrs.Goals as goal

pub put_slot-requires-clause-writable : goal.put_slot-requires-clause-writable
put_slot-requires-clause-writable c =
    let told = told_attrs c.args.kept.now c.args.others.now.row.now in
    let kinds = c.told_types-kinds.result.now in
    let lt : c.types.kind-index < length kinds = omega (arith, c.types-test.true) in
    all_of_type (slot told) kinds c.types.kind-index (get_or kinds c.types.kind-index 0) lt refl
    (λ a. is_writable c.args.ctx.now a ≡ true)
    (subst (λ (xs : List Attr). AllByRecursion (λ a. is_writable c.args.ctx.now a ≡ true) xs) (sym (c.told_types-kinds.ensures told refl)) c.requires.writable)

pub returns-in_err-put_slot-clause-err : goal.returns-in_err-put_slot-clause-err
returns-in_err-put_slot-clause-err c =
    let told = told_attrs c.args.kept.now c.args.others.now.row.now in
    let p = err_from_is_err_and c.from_residual.result c.from_residual.ensures.1 in
    rw p.1 (written_more (canonical c.args.ctx.now) (λ a. Unit {0}) (so_far (slot told) c.told_types-kinds.result.now c.types.kind-index) c.args.out.now.items c.types.out.items c.put_slot.new.out.items c.types.invariant c.in_err-put_slot.ensures.err)

-- no condition on the attributes
each : (xs : List Attr) → AllByRecursion (λ (a : Attr). Unit {0}) xs
each [] = tt
each (x ∷ xs) = (tt, each xs)

pub types-preserved : goal.types-preserved
types-preserved c =
    let told = told_attrs c.args.kept.now c.args.others.now.row.now in
    let kinds = c.told_types-kinds.result.now in
    let kind = get_or kinds c.types.kind-index 0 in
    let lt : c.types.kind-index < length kinds = omega (arith, c.types-test.true) in
    type_written (slot told) kinds c.types.kind-index kind lt refl (canonical c.args.ctx.now) (λ (a : Attr). Unit {0}) c.args.out.now.items c.types.out.items c.types.invariant c.put_slot.new.out.items
    c.in_ok-put_slot.ensures.ok (each (slot told kind))

pub returns-clause-ok : goal.returns-clause-ok
returns-clause-ok c =
    let told = told_attrs c.args.kept.now c.args.others.now.row.now in
    c.types.invariant.items
    ∙ ap (λ (xs : List Attr). c.args.out.now.items ++ flat_map (canonical c.args.ctx.now) xs)
    (all_walked (slot told) c.told_types-kinds.result.now c.types.kind-index c.types-test.false ∙ c.told_types-kinds.ensures told refl)
