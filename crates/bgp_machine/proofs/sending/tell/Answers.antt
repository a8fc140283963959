-- What is sent is valid in the form in which it is sent.
use Rattle.bgp_machine.proofs.Prelude.{◌≡◌, Bool, None, ◌++◌, sym, ap, subst, ◌∙◌, on_ok_weaker, OnOk, Update, invalid_of, HasUpdateRanges, told_with}
use Rattle.bgp_msg.specs.declared.message.Message.{Message}
use Rattle.bgp_msg.specs.Prelude.{canonical}
use Rattle.bgp_machine.proofs.Sendings.{told_valid, told_narrow, told_narrow_valid}
use Rattle.bgp_machine.proofs.Widened.{widened_ranges}
use Rattle.bgp_machine.proofs.sending.tell.Goals as goal

pub put-requires : goal.put-requires
put-requires c = told_valid c.args.context.now c.args.update.now c.requires c.if-context.true

pub narrow_update-requires : goal.narrow_update-requires
narrow_update-requires c = told_narrow c.args.context.now c.args.update.now c.requires

pub returns-then-context-clause-ok : goal.returns-then-context-clause-ok
returns-then-context-clause-ok c =
    subst (λ (told : Update). OnOk c.put.result (c.put.new.out.items ≡ c.args.out.now.items ++ canonical c.args.context.now (Message.Update told)))
    (ap (λ (as4 : Bool). told_with as4 c.args.update.now) (sym c.if-context.true)) c.put.ensures.ok

pub put-requires-in-Ok : goal.put-requires-in-Ok
put-requires-in-Ok c =
    subst (λ (told : Update). invalid_of c.args.context.now told ≡ None) (sym c.in-Ok.ensures)
    (told_narrow_valid c.args.context.now c.args.update.now c.requires c.if-context.false)

pub returns-in-Ok-clause-ok : goal.returns-in-Ok-clause-ok
returns-in-Ok-clause-ok c =
    subst (λ (told : Update). OnOk c.put-in-Ok.result (c.put-in-Ok.new.out.items ≡ c.args.out.now.items ++ canonical c.args.context.now (Message.Update told)))
    (c.in-Ok.ensures ∙ ap (λ (as4 : Bool). told_with as4 c.args.update.now) (sym c.if-context.false)) c.put-in-Ok.ensures.ok

pub returns-in-Ok-clause-ranges : goal.returns-in-Ok-clause-ranges
returns-in-Ok-clause-ranges c =
    on_ok_weaker c.put-in-Ok.result
    (λ told. widened_ranges c.args.update.now (told_narrow c.args.context.now c.args.update.now c.requires) (subst (λ (u : Update). HasUpdateRanges u) c.in-Ok.ensures told))
    c.put-in-Ok.ensures.ranges
