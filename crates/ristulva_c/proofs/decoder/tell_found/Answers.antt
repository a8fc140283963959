use Rattle.ristulva_c.proofs.Below.{◌≡◌, ℕ, List, ◌++◌, take, sym, ap, subst, ◌∙◌, false, Notification, notification_of_view, Outcome, behind, of_fault, is_reset, outcome_value}
use Rattle.bgp_msg.specs.declared.outcome.Outcome.TheVariants as outcome
use Rattle.ristulva_c.specs.declared.status.TheConstants.{OK}
use Rattle.ristulva_c.specs.Prelude.{GivesHeld, IsWholeTold, Judging}
use Rattle.ristulva_c.proofs.Pulled.{fed, gives}
use Rattle.ristulva_c.proofs.decoder.tell_found.Goals as goal

pub returns-in-Message : goal.returns-in-Message
returns-in-Message c =
    let d = c.args.decoder.now in
    let piece = c.args.piece.now in
    let n = c.in-Message.count in
    let o = outcome_value c.in-Message.outcome in
    let j : Judging = record { status = OK; before = c.args.out.now; behind = c.tell_whole.new.out; info_before = c.args.info.now; info_behind = c.tell_whole.new.info } in
    let given : GivesHeld (record { ctx = d.ctx; held = c.held_by.result.now; stopped = false }) o =
    subst (λ (x : List ℕ). GivesHeld (record { ctx = d.ctx; held = x; stopped = false }) o) (sym c.held_by.ensures) (gives d piece n c.in-Message.field-1 o (behind d o) c.in-Message.ensures.0) in (
      fed d piece n c.in-Message.field-1 o (behind d o) c.in-Message.ensures.0,
      (o, (c.in-Message.ensures.1, subst (λ (x : List ℕ). IsWholeTold d.ctx x o j c.args.message.now c.tell_whole.new.message) c.held_by.ensures (c.tell_whole.ensures d.ctx given))),
    )

pub returns-in-Fault : goal.returns-in-Fault
returns-in-Fault c =
    let d = c.args.decoder.now in
    let piece = c.args.piece.now in
    let n = c.in-Fault.count in
    let o = of_fault c.in-Fault.fault in
    let said : Outcome = outcome.Reset (notification_of_view c.view.result) in
    let is : said ≡ o = ap (λ (x : Notification). outcome.Reset x) (c.view.ensures ∙ c.answer-why.ensures) in
    let j : Judging = record { status = OK; before = c.args.out.now; behind = c.tell_whole-in-Fault.new.out; info_before = c.args.info.now; info_behind = c.tell_whole-in-Fault.new.info } in
    let given : GivesHeld (record { ctx = d.ctx; held = c.held_by-in-Fault.result.now; stopped = false }) said =
    subst (λ (x : List ℕ). GivesHeld (record { ctx = d.ctx; held = x; stopped = false }) said) (sym c.held_by-in-Fault.ensures)
    (subst (λ (x : Outcome). GivesHeld (record { ctx = d.ctx; held = d.held ++ take n piece; stopped = false }) x) (sym is) (gives d piece n 0 o (behind d o) c.in-Fault.ensures.0)) in (
      fed d piece n 0 o (behind d o) c.in-Fault.ensures.0,
      (said, ((c.in-Fault.ensures.1.0, c.in-Fault.ensures.1.1 ∙ ap is_reset (sym is)), subst (λ (x : List ℕ). IsWholeTold d.ctx x said j c.args.message.now c.tell_whole-in-Fault.new.message) c.held_by-in-Fault.ensures (c.tell_whole-in-Fault.ensures d.ctx given))),
    )
