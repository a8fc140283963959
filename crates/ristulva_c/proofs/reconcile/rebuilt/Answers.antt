use Rattle.ristulva_c.proofs.Below.{◌≡◌, Some, true, ap, subst, ◌∙◌, Context, Update, update_value, with_as4}
use Rattle.ristulva_c.specs.Prelude.{written_of, IsCoded, rebuilt_update}
use Rattle.ristulva_c.proofs.reconcile.rebuilt.Goals as goal

pub returns-in-Ok-rebuild : goal.returns-in-Ok-rebuild
returns-in-Ok-rebuild c =
    let same : c.in-Ok-rebuild.rebuilt ≡ rebuilt_update (update_value c.args.view.now) = c.in-Ok-rebuild.ensures ∙ ap rebuilt_update c.in-Ok.ensures in
    subst (λ (u : Update). IsCoded c.written_last.result (Some (written_of (with_as4 true c.args.ctx.now) u))) same
    (subst (λ (x : Context). IsCoded c.written_last.result (Some (written_of x c.in-Ok-rebuild.rebuilt))) c.with_as4-wide.ensures c.written_last.ensures)
