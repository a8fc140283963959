use Rattle.std.proofs.Common.{ap, subst, arith}
use Rattle.bgp_msg.specs.declared.outcome_view.OutcomeView.{OutcomeView}
use Rattle.bgp_msg.specs.Prelude.{IsAtFront, outcome_value, has_lists}
use Rattle.bgp_msg.proofs.Pulls.{whole_at_front, front_takes_memory, on_err_any}
use Rattle.bgp_msg.proofs.decoder.Decoder.early.Goals as goal

pub returns-in_err-notes-clause-memory : goal.returns-in_err-notes-clause-memory
returns-in_err-notes-clause-memory c =
    let old = c.args.self.now in
    let n = c.in-Frame.frame.len in
    let o = outcome_value c.view_frame.result in
    let front = whole_at_front old _ c.args.piece.now c.in-Frame.frame c.held.result o c.self.view_is c.if-self.false c.held.ensures.value (omega arith) c.in-Frame.ensures c.view_frame.ensures in
    let lists = ap (λ (v : OutcomeView). has_lists (outcome_value v)) c.in-Update.is in
    on_err_any c.from_residual.result (front_takes_memory old c.args.piece.now n o lists front)

pub returns-in_err-update-clause-memory : goal.returns-in_err-update-clause-memory
returns-in_err-update-clause-memory c =
    let old = c.args.self.now in
    let n = c.in-Frame.frame.len in
    let o = outcome_value c.view_frame.result in
    let front = whole_at_front old _ c.args.piece.now c.in-Frame.frame c.held.result o c.self.view_is c.if-self.false c.held.ensures.value (omega arith) c.in-Frame.ensures c.view_frame.ensures in
    let lists = ap (λ (v : OutcomeView). has_lists (outcome_value v)) c.in-Update.is in
    on_err_any c.from_residual-in_err-update.result (front_takes_memory old c.args.piece.now n o lists front)

pub returns-clause-ok : goal.returns-clause-ok
returns-clause-ok c =
    let old = c.args.self.now in
    let o = outcome_value c.view_frame.result in
    let front = whole_at_front old _ c.args.piece.now c.in-Frame.frame c.held.result o c.self.view_is c.if-self.false c.held.ensures.value (omega arith) c.in-Frame.ensures c.view_frame.ensures in
    rw (c.in_ok-update.ensures, c.in_ok-notes.ensures)
    (subst (λ (v : OutcomeView). IsAtFront old c.args.piece.now c.in-Frame.frame.len (outcome_value v)) c.in-Update.is front)
