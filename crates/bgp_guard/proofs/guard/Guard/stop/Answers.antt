use Rattle.bgp_guard.proofs.Prelude.{ap, ◌∙◌, half_of, stopped}
use Rattle.bgp_guard.proofs.Sights.{ended_by}
use Rattle.bgp_guard.proofs.guard.Guard.stop.Goals as goal

pub returns-in-Runs : goal.returns-in-Runs
returns-in-Runs c =
    let g = c.self.inside in
    ended_by (record { rules = g.rules; stage = g.stage; outer = half_of g.outer; inner = half_of g.inner }) _ _ c.in-Runs.field-0 c.in-Runs.is
    (c.dismiss.ensures g.outer.framer) (c.dismiss-in-Runs.ensures g.inner.framer)
    ∙ ap stopped c.self.view_is
