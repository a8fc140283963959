use Rattle.std.proofs.Common.{◌≡◌, true, false, ap}
use Rattle.std.specs.Prelude.{is_none}
use Rattle.bgp_open.specs.declared.context.Context.{Context}
use Rattle.bgp_update.specs.declared.update.Update.{Update}
use Rattle.bgp_update.specs.Prelude.{narrowed_update, CanBeTold, update_value, with_as4}
use Rattle.bgp_update.proofs.Widths.{narrowed_update_is_valid}
use Rattle.bgp_msg.specs.declared.message.Message.TheVariants as message
use Rattle.bgp_msg.specs.Prelude.{is_valid}
use Rattle.bgp_msg.proofs.narrow_encoding.encode_narrowed.Goals as goal

told_valid : (ctx : Context) (u : Update) → CanBeTold ctx u → is_valid (with_as4 false ctx) (message.Update (narrowed_update u)) ≡ true
told_valid ctx u can = ap is_none (narrowed_update_is_valid ctx u can.wide can.valid)

pub returns-then-not-put_room-clause-valid : goal.returns-then-not-put_room-clause-valid
returns-then-not-put_room-clause-valid c = told_valid c.args.ctx.now (update_value c.args.view.now) c.requires

pub returns-then-is_ok-clause-valid : goal.returns-then-is_ok-clause-valid
returns-then-is_ok-clause-valid c = told_valid c.args.ctx.now (update_value c.args.view.now) c.requires

pub returns-else-is_ok-clause-valid : goal.returns-else-is_ok-clause-valid
returns-else-is_ok-clause-valid c = told_valid c.args.ctx.now (update_value c.args.view.now) c.requires
