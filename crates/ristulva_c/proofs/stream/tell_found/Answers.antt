use mathlib.Core.Logic.{inl}
use Rattle.ristulva_c.proofs.Below.{◌≡◌, ℕ, List, ◌++◌, take, sym, ap, subst, ◌∙◌, Notification, notification_of_view}
use Rattle.bgp_msg.specs.declared.outcome.Outcome.TheVariants as outcome
use Rattle.bgp_terms.specs.Prelude.{Agreed, wide_terms}
use Rattle.bgp_wide.specs.Prelude.{WideOutcome, behind, fault_in, resets_in, wide_value}
use Rattle.ristulva_c.specs.declared.status.TheConstants.{OK}
use Rattle.ristulva_c.specs.Prelude.{Judging}
use Rattle.ristulva_c.specs.Stream.{GivesHeld, IsWholeTold}
use Rattle.ristulva_c.proofs.Streams.{fed, gives}
use Rattle.ristulva_c.proofs.stream.tell_found.Goals as goal

-- what is reported by the terms of the decoder, of the octets that it holds
by_terms : (t u : Agreed) (held octets : List ℕ) (o : WideOutcome) (j : Judging) (before new : List ℕ) → t ≡ u → octets ≡ held
    → (GivesHeld t octets o → IsWholeTold t octets o j before new) → GivesHeld u held o → IsWholeTold u held o j before new
by_terms t u held octets o j before new same is told given =
    subst (λ (x : Agreed). GivesHeld x held o → IsWholeTold x held o j before new) same
    (subst (λ (x : List ℕ). GivesHeld t x o → IsWholeTold t x o j before new) is told) given

pub returns-in-Message : goal.returns-in-Message
returns-in-Message c =
    let d = c.args.decoder.now in
    let piece = c.args.piece.now in
    let n = c.in-Message.count in
    let o = wide_value c.in-Message.outcome in
    let pulled = c.in-Message.ensures.0 in
    let j : Judging = record { status = OK; before = c.args.out.now; behind = c.tell_whole.new.out; info_before = c.args.info.now; info_behind = c.tell_whole.new.info } in (
      fed d piece n c.in-Message.field-1 o (behind d o) pulled,
      (
        o,
        (
          c.in-Message.ensures.1,
          by_terms (wide_terms c.terms-agreed.result.now) d.terms (d.held ++ take n piece) c.held_by-octets.result.now o j c.args.message.now c.tell_whole.new.message
              c.terms-agreed.ensures c.held_by-octets.ensures c.tell_whole.ensures (gives d piece n c.in-Message.field-1 o (behind d o) pulled),
        ),
      ),
    )

pub returns-in-Fault : goal.returns-in-Fault
returns-in-Fault c =
    let d = c.args.decoder.now in
    let piece = c.args.piece.now in
    let n = c.in-Fault.count in
    let o = fault_in c.in-Fault.fault in
    let said : WideOutcome = inl (outcome.Reset (notification_of_view c.view.result)) in
    let is : said ≡ o = ap (λ (x : Notification). let w : WideOutcome = inl (outcome.Reset x) in w) (c.view.ensures ∙ c.answer-why.ensures) in
    let pulled = c.in-Fault.ensures.0 in
    let given = subst (λ (x : WideOutcome). GivesHeld d.terms (d.held ++ take n piece) x) (sym is) (gives d piece n 0 o (behind d o) pulled) in
    let j : Judging = record { status = OK; before = c.args.out.now; behind = c.tell_whole-in-Fault.new.out; info_before = c.args.info.now; info_behind = c.tell_whole-in-Fault.new.info } in (
      fed d piece n 0 o (behind d o) pulled,
      (
        said,
        (
          (c.in-Fault.ensures.1.0, c.in-Fault.ensures.1.1 ∙ ap resets_in (sym is)),
          by_terms (wide_terms c.terms-agreed.result.now) d.terms (d.held ++ take n piece) c.held_by-octets-in-Fault.result.now said j c.args.message.now c.tell_whole-in-Fault.new.message
              c.terms-agreed.ensures c.held_by-octets-in-Fault.ensures c.tell_whole-in-Fault.ensures given,
        ),
      ),
    )
