use Rattle.bgp_wire.proofs.Std.{◌≡◌, ◌<◌, Bool, false, not, ◌&&◌, ap, ap₂, sym, ◌∙◌, subst, AllByRecursion}
use Rattle.bgp_attr.specs.declared.opaque.Opaque.{Opaque}
use Rattle.bgp_update.specs.declared.failed.Failed.{Failed}
use Rattle.bgp_update.specs.declared.invalid.Invalid.TheVariants as invalid
use Rattle.bgp_update.specs.Written.{has_nlri}
use Rattle.bgp_update.specs.Prelude.{first_of, has_needless_next_hop, has_outside_preference, has_bad_others}
use Rattle.bgp_update.proofs.FailedSteps.{missing_first, next_hop_first, preference_first, failed_first, others_good, never_none}
use Rattle.bgp_update.proofs.refusal.first_reason.Goals as goal
use Rattle.bgp_update.proofs.refusal.first_reason.Goals.{else-is_some-via-then-is_some+else-not-has_nlri, else-is_some-via-else-is_some, else-is_some-2-via-then-is_some-2+else-not-ctx, else-is_some-2-via-else-is_some-2}

pub returns-then-lacks_some-clause-why : goal.returns-then-lacks_some-clause-why
returns-then-lacks_some-clause-why c = missing_first c.args.ctx.now c.args.update.now (sym c.if-lacks_some.ensures)

pub returns-then-lacks_some-clause-kinds : goal.returns-then-lacks_some-clause-kinds
returns-then-lacks_some-clause-kinds c = never_none invalid.Missing

pub returns-then-not-has_nlri-clause-why : goal.returns-then-not-has_nlri-clause-why
returns-then-not-has_nlri-clause-why c = next_hop_first c.args.ctx.now c.args.update.now (sym c.if-lacks_some.ensures) (sym c.if-is_some.ensures) (sym c.if-not-has_nlri.ensures)

pub returns-then-not-has_nlri-clause-kinds : goal.returns-then-not-has_nlri-clause-kinds
returns-then-not-has_nlri-clause-kinds c = never_none invalid.NextHop

pub returns-then-not-ctx-clause-why : goal.returns-then-not-ctx-clause-why
returns-then-not-ctx-clause-why c =
    let u = c.args.update.now in
    let needless : has_needless_next_hop u ≡ false = elim c.else-is_some.branch [
      | else-is_some-via-then-is_some+else-not-has_nlri w ↦ ap₂ (λ (a b : Bool). a && not b) (sym w.if-is_some.ensures) (sym w.if-not-has_nlri.ensures)
      | else-is_some-via-else-is_some w ↦ ap (λ (a : Bool). a && not (has_nlri u)) (sym w.if-is_some.ensures)
    ] in
    preference_first c.args.ctx.now u (sym c.if-lacks_some.ensures) needless (sym c.if-is_some-2.ensures) c.if-not-ctx.true

pub returns-then-not-ctx-clause-kinds : goal.returns-then-not-ctx-clause-kinds
returns-then-not-ctx-clause-kinds c = never_none invalid.LocalPref

pub returns-clause-why : goal.returns-clause-why
returns-clause-why c =
    let u = c.args.update.now in
    let needless : has_needless_next_hop u ≡ false = elim c.else-is_some.branch [
      | else-is_some-via-then-is_some+else-not-has_nlri w ↦ ap₂ (λ (a b : Bool). a && not b) (sym w.if-is_some.ensures) (sym w.if-not-has_nlri.ensures)
      | else-is_some-via-else-is_some w ↦ ap (λ (a : Bool). a && not (has_nlri u)) (sym w.if-is_some.ensures)
    ] in
    let outside : has_outside_preference c.args.ctx.now u ≡ false = elim c.else-is_some-2.branch [
      | else-is_some-2-via-then-is_some-2+else-not-ctx w ↦ ap₂ (λ (a b : Bool). a && not b) (sym w.if-is_some-2.ensures) w.if-not-ctx.false
      | else-is_some-2-via-else-is_some-2 w ↦ ap (λ (a : Bool). a && not c.args.ctx.now.internal) (sym w.if-is_some-2.ensures)
    ] in
    c.first.ensures
    ∙ ap₂ (λ (f : Failed) (bad : Bool). first_of f c.args.ctx.now.as4 bad) c.of-failed.ensures (c.has_bad_others-others.ensures.value ∙ ap has_bad_others c.deref.ensures)
    ∙ failed_first c.args.ctx.now u (sym c.if-lacks_some.ensures) needless outside

pub returns-clause-kinds : goal.returns-clause-kinds
returns-clause-kinds c = λ none.
    subst (AllByRecursion (λ (o : Opaque). o.kind < 256)) c.deref.ensures
    (c.has_bad_others-others.ensures.kinds (others_good c.of-failed.result c.args.ctx.now.as4 c.has_bad_others-others.result (sym c.first.ensures ∙ none)))
