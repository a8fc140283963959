use Rattle.ristulva_c.proofs.Below.{◌≡◌, ℕ, List, Option, Some, false, ap, subst, ◌∙◌, Context, Update, narrowed_update, update_value, with_as4}
use Rattle.bgp_update.proofs.Widths.{narrowed_update_is_valid}
use Rattle.ristulva_c.specs.Prelude.{written_of, IsCoded}
use Rattle.ristulva_c.proofs.Encodings.{valid_written}
use Rattle.ristulva_c.proofs.encode.renarrowed.Goals as goal

pub returns-in-Ok-told : goal.returns-in-Ok-told
returns-in-Ok-told c =
    let ctx = c.args.ctx.now in
    let u = update_value c.args.view.now in
    let same : c.in-Ok-told.told ≡ narrowed_update u = c.in-Ok-told.ensures ∙ ap narrowed_update c.in-Ok.ensures in
    subst (λ (form : Option (List ℕ)). IsCoded c.written_last.result (Some form))
    (valid_written (with_as4 false ctx) (narrowed_update u) (narrowed_update_is_valid ctx u c.requires.wide c.requires.valid))
    (subst (λ (v : Update). IsCoded c.written_last.result (Some (written_of (with_as4 false ctx) v))) same
    (subst (λ (x : Context). IsCoded c.written_last.result (Some (written_of x c.in-Ok-told.told))) c.with_as4-narrow_ctx.ensures c.written_last.ensures))
