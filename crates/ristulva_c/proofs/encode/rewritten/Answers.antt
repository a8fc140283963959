use Rattle.ristulva_c.proofs.Below.{ℕ, List, Option, Some, subst, Update}
use Rattle.ristulva_c.specs.Prelude.{written_of, IsCoded}
use Rattle.ristulva_c.proofs.encode.rewritten.Goals as goal

pub returns-in-Ok : goal.returns-in-Ok
returns-in-Ok c =
    subst (λ (form : Option (List ℕ)). IsCoded c.written_last.result (Some form)) c.requires
    (subst (λ (u : Update). IsCoded c.written_last.result (Some (written_of c.args.ctx.now u))) c.in-Ok.ensures c.written_last.ensures)
