use Rattle.bgp_engine.proofs.Prelude.{◌+◌, length, arith, subst, ap, ◌∙◌, sym, AreOctets, IsLength, update_value, notes_value, outcome_value}
use Rattle.bgp_frame.specs.declared.kind.Kind.TheVariants as kinds
use Rattle.bgp_msg.specs.declared.message.Message.TheVariants as messages
use Rattle.bgp_msg.specs.declared.outcome_view.OutcomeView.{OutcomeView}
use Rattle.bgp_paths.specs.Prelude.{field_numbers}
use Rattle.bgp_engine.specs.Below.{out_of}
use Rattle.bgp_engine.proofs.Narrows.{narrowed_same, received_taken, taken_told}
use Rattle.bgp_engine.proofs.narrowing.put_identified.Goals as goal

pub put_view_with-requires : goal.put_view_with-requires
put_view_with-requires c =
    let ctx = c.args.ctx.now in
    let u = update_value c.in-Update.view.now in
    let notes = notes_value c.in-Update.view.now in
    let plain = c.as_slice-2.result.now in
    let octets : AreOctets plain = subst AreOctets (c.as_slice.ensures ∙ sym c.as_slice-2.ensures) c.are_octets.ensures in
    let same = ap length c.as_slice-2.ensures in
    let longer = c.fill.ensures.longer (omega (arith, c.requires.long.least)) in
    let allowed : IsLength kinds.Update (19 + length plain) = record {
      least = omega (arith, same, longer);
      most = omega (arith, same, c.requires.long.most, c.fill.ensures.shorter);
    } in
    let told = sym c.view_received.ensures ∙ ap (λ (v : OutcomeView). outcome_value v) c.in-Update.is in
    taken_told ctx c.requires.wide u notes kinds.Update plain octets allowed (received_taken c.args.body.now (out_of ctx (record { kind = kinds.Update; body = plain })) (messages.Update u) notes told)

pub returns-in-Update : goal.returns-in-Update
returns-in-Update c =
    let u = update_value c.in-Update.view.now in
    let notes = notes_value c.in-Update.view.now in
    rw (narrowed_same c.args.families c.args.ctx.now c.args.body.now c.as_slice-2.result.now (c.as_slice-2.ensures ∙ c.fill.ensures.body) (outcome_value c.view_received.result) c.view_received.ensures
    (field_numbers c.path_runs-runs.result) u notes c.path_runs-runs.ensures.fields (ap (λ (v : OutcomeView). outcome_value v) c.in-Update.is)) at c.put_view_with.ensures
