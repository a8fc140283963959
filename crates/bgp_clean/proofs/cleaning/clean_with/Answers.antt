use Rattle.bgp_clean.proofs.Prelude.{sym, ap, subst, ◌∙◌, has_octet, notification_of_view, message_in, open_value, update_value, notes_value}
use Rattle.bgp_clean.proofs.Prelude.{routes_value, Message, Outcome, outcome_value, ended_family, cleaned_outcome, refuses_in, IsCleaned}
use Rattle.std.proofs.Common.{IfOk}
use Rattle.bgp_msg.specs.declared.outcome_view.OutcomeView.{OutcomeView}
use Rattle.bgp_clean.proofs.Outcomes.{at_most, open_good, update_can, withdrawal_short, notification_same, keepalive_same}
use Rattle.bgp_clean.proofs.cleaning.clean_with.Goals as goal

abbrev value : OutcomeView → Outcome
value v = outcome_value v

pub clean_open-requires : goal.clean_open-requires
clean_open-requires g c =
    open_good c.args.ctx.now (message_in c.args.frame) c.are_octets.ensures c.requires (open_value c.in-Open.view) _ (sym c.view_frame.ensures ∙ ap value c.in-Open.is)

pub clean_update-requires-clause-can : goal.clean_update-requires-clause-can
clean_update-requires-clause-can g c =
    let v = c.in-Update.view.now in
    update_can c.args.ctx.now (message_in c.args.frame) c.requires c.are_octets.ensures (update_value v) (notes_value v) (sym c.view_frame.ensures ∙ ap value c.in-Update.is)

pub clean_update-requires-clause-body : goal.clean_update-requires-clause-body
clean_update-requires-clause-body g c = at_most (message_in c.args.frame).kind _ c.requires

pub clean_withdrawal-requires : goal.clean_withdrawal-requires
clean_withdrawal-requires g c =
    let v = c.in-Withdraw.view.now in
    withdrawal_short c.args.ctx.now (message_in c.args.frame) c.requires c.are_octets.ensures (routes_value v) (notes_value v) (sym c.view_frame.ensures ∙ ap value c.in-Withdraw.is)

pub returns-in-Notification-clause-value : goal.returns-in-Notification-clause-value
returns-in-Notification-clause-value g c =
    let ctx = c.args.ctx.now in
    let m = message_in c.args.frame in
    let n = notification_of_view c.in-Notification.field-0 in
    let is = sym c.view_frame.ensures ∙ ap value c.in-Notification.is in
    subst (λ (o : Outcome). IfOk c.pass_on.result (IsCleaned ctx (cleaned_outcome c.args.offers (has_octet c.args.drops.now) (refuses_in ctx c.args.limits.now) c.args.first (ended_family ctx m) o) (g.O.Output.written c.args.out.now) (g.O.Output.written c.pass_on.new.out)))
    (sym is) (c.pass_on.ensures.value (Message.Notification n) (notification_same ctx m c.requires n _ is))

pub returns-in-Keepalive-clause-value : goal.returns-in-Keepalive-clause-value
returns-in-Keepalive-clause-value g c =
    let ctx = c.args.ctx.now in
    let m = message_in c.args.frame in
    let passed = c.pass_on-in-Keepalive in
    let is = sym c.view_frame.ensures ∙ ap value c.in-Keepalive.is in
    subst (λ (o : Outcome). IfOk passed.result (IsCleaned ctx (cleaned_outcome c.args.offers (has_octet c.args.drops.now) (refuses_in ctx c.args.limits.now) c.args.first (ended_family ctx m) o) (g.O.Output.written c.args.out.now) (g.O.Output.written passed.new.out)))
    (sym is) (passed.ensures.value Message.Keepalive (keepalive_same ctx m c.requires _ is))
