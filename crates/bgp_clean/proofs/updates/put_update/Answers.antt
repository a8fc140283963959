use Rattle.bgp_clean.proofs.Prelude.{sym, subst, Update}
use Rattle.bgp_clean.specs.steps.Parts.{PartsCanBePut}
use Rattle.bgp_clean.proofs.updates.put_update.Goals as goal

pub put_chosen-requires : goal.put_chosen-requires
put_chosen-requires g c = subst (λ (u : Update). PartsCanBePut c.args.ctx.now u) (sym c.all-chosen.ensures) c.requires
