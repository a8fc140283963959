use Rattle.ristulva_c.proofs.Below.{ap, not, out_of, sym, true, Context, Message, Some, ◌&&◌, ◌∙◌}
use Rattle.bgp_frame.specs.declared.kind.Kind.TheVariants as kinds
use Rattle.bgp_msg.specs.Prelude.{is_reset}
use Rattle.ristulva_c.specs.Prelude.{carries_ip6, context_of}
use Rattle.ristulva_c.specs.steps.RouteList.{cursor_of}
use Rattle.ristulva_c.proofs.PathCounts.{IsFor, counts_are, cursor_lies}
use Rattle.ristulva_c.proofs.path_list.counts_of.Goals as goal

pub count_at-requires : goal.count_at-requires
count_at-requires c =
    let ctx = context_of c.args.ctx.now in
    let octets = c.args.message.now in
    let body = c.args.body.now in
    let message : Message = record { kind = kinds.Update; body = body } in
    let goes_on = ap (λ (x : Context). is_reset (out_of x message)) (sym c.context_of.ensures) ∙ ap is_reset (sym c.view_frame.ensures) ∙ sym c.is_reset.ensures ∙ c.if-is_reset.false in
    let is_for : IsFor ctx octets body c.cursor_in-cursor.result = λ p is.
    c.cursor_in-cursor.ensures p is ∙ ap (λ (x : Context). cursor_of x true (not x.ip6 && carries_ip6 (Some p)) p) c.context_of-2.ensures in
    (cursor_lies ctx octets body c.are_octets.ensures c.requires.frame c.requires.short c.cursor_in-cursor.result is_for goes_on).withdrawn

pub count_at-requires-2 : goal.count_at-requires-2
count_at-requires-2 c =
    let ctx = context_of c.args.ctx.now in
    let octets = c.args.message.now in
    let body = c.args.body.now in
    let message : Message = record { kind = kinds.Update; body = body } in
    let goes_on = ap (λ (x : Context). is_reset (out_of x message)) (sym c.context_of.ensures) ∙ ap is_reset (sym c.view_frame.ensures) ∙ sym c.is_reset.ensures ∙ c.if-is_reset.false in
    let is_for : IsFor ctx octets body c.cursor_in-cursor.result = λ p is.
    c.cursor_in-cursor.ensures p is ∙ ap (λ (x : Context). cursor_of x true (not x.ip6 && carries_ip6 (Some p)) p) c.context_of-2.ensures in
    (cursor_lies ctx octets body c.are_octets.ensures c.requires.frame c.requires.short c.cursor_in-cursor.result is_for goes_on).unreached

pub count_at-requires-3 : goal.count_at-requires-3
count_at-requires-3 c =
    let ctx = context_of c.args.ctx.now in
    let octets = c.args.message.now in
    let body = c.args.body.now in
    let message : Message = record { kind = kinds.Update; body = body } in
    let goes_on = ap (λ (x : Context). is_reset (out_of x message)) (sym c.context_of.ensures) ∙ ap is_reset (sym c.view_frame.ensures) ∙ sym c.is_reset.ensures ∙ c.if-is_reset.false in
    let is_for : IsFor ctx octets body c.cursor_in-cursor.result = λ p is.
    c.cursor_in-cursor.ensures p is ∙ ap (λ (x : Context). cursor_of x true (not x.ip6 && carries_ip6 (Some p)) p) c.context_of-2.ensures in
    (cursor_lies ctx octets body c.are_octets.ensures c.requires.frame c.requires.short c.cursor_in-cursor.result is_for goes_on).reached

pub count_at-requires-4 : goal.count_at-requires-4
count_at-requires-4 c =
    let ctx = context_of c.args.ctx.now in
    let octets = c.args.message.now in
    let body = c.args.body.now in
    let message : Message = record { kind = kinds.Update; body = body } in
    let goes_on = ap (λ (x : Context). is_reset (out_of x message)) (sym c.context_of.ensures) ∙ ap is_reset (sym c.view_frame.ensures) ∙ sym c.is_reset.ensures ∙ c.if-is_reset.false in
    let is_for : IsFor ctx octets body c.cursor_in-cursor.result = λ p is.
    c.cursor_in-cursor.ensures p is ∙ ap (λ (x : Context). cursor_of x true (not x.ip6 && carries_ip6 (Some p)) p) c.context_of-2.ensures in
    (cursor_lies ctx octets body c.are_octets.ensures c.requires.frame c.requires.short c.cursor_in-cursor.result is_for goes_on).nlri

pub returns : goal.returns
returns c =
    let ctx = context_of c.args.ctx.now in
    let octets = c.args.message.now in
    let body = c.args.body.now in
    let message : Message = record { kind = kinds.Update; body = body } in
    let goes_on = ap (λ (x : Context). is_reset (out_of x message)) (sym c.context_of.ensures) ∙ ap is_reset (sym c.view_frame.ensures) ∙ sym c.is_reset.ensures ∙ c.if-is_reset.false in
    let is_for : IsFor ctx octets body c.cursor_in-cursor.result = λ p is.
    c.cursor_in-cursor.ensures p is ∙ ap (λ (x : Context). cursor_of x true (not x.ip6 && carries_ip6 (Some p)) p) c.context_of-2.ensures in
    counts_are ctx octets body c.are_octets.ensures c.requires.frame c.requires.short c.cursor_in-cursor.result is_for goes_on
    (record { withdrawn = c.count_at.result; unreached = c.count_at-2.result; reached = c.count_at-3.result; nlri = c.count_at-4.result })
    c.count_at.ensures c.count_at-2.ensures c.count_at-3.ensures c.count_at-4.ensures
