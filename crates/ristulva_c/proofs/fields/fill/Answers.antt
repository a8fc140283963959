use Rattle.ristulva_c.proofs.Below.{◌≤◌, List, map, length, ap, sym, subst, ◌∙◌, arith, Context, Field, fields_left, fields_of}
use Rattle.ristulva_c.specs.Prelude.{field_told, IsFilled}
use Rattle.ristulva_c.specs.declared.status.TheConstants.{OK, ROOM}
use Rattle.ristulva_c.proofs.FieldSteps.{few_fields, none_filled, all_filled}
use Rattle.ristulva_c.proofs.fields.fill.Goals as goal

pub fit-requires-clause-fields : goal.fit-requires-clause-fields
fit-requires-clause-fields c = omega (arith, ap length c.new-fields.ensures, few_fields c.context_of.result c.args.message.now)

pub returns-then-not-fit : goal.returns-then-not-fit
returns-then-not-fit c =
    let message = c.args.message.now in
    let fields = fields_left c.new-fields.result in
    let few : length fields ≤ 4096 = omega (arith, ap length c.new-fields.ensures, few_fields c.context_of.result message, c.requires) in
    subst (λ (fs : List Field). IsFilled (map field_told fs) (record { status = ROOM; before = c.args.list.now; behind = c.args.list.now; written_before = c.args.written.now; written_behind = c.args.written.now }))
    (c.new-fields.ensures ∙ ap (λ (k : Context). fields_of k message) c.context_of.ensures)
    (none_filled fields c.args.list.now c.args.written.now (sym c.fit.ensures ∙ c.if-not-fit.true) few)

pub returns : goal.returns
returns c =
    let message = c.args.message.now in
    let fields = fields_left c.new-fields.result in
    let few : length fields ≤ 4096 = omega (arith, ap length c.new-fields.ensures, few_fields c.context_of.result message, c.requires) in
    subst (λ (fs : List Field). IsFilled (map field_told fs) (record { status = OK; before = c.args.list.now; behind = c.list.new.list; written_before = c.args.written.now; written_behind = c.list.result }))
    (c.new-fields.ensures ∙ ap (λ (k : Context). fields_of k message) c.context_of.ensures)
    (all_filled fields c.args.list.now c.list.new.list c.args.written.now c.list.result (sym c.fit.ensures ∙ c.if-not-fit.false) few c.list.ensures.list c.list.ensures.count)
