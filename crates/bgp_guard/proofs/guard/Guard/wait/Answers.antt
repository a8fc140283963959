use Rattle.bgp_guard.proofs.Prelude.{true, ap, ◌∙◌, waited, half_of}
use Rattle.bgp_guard.proofs.Sights.{late_waited}
use Rattle.bgp_guard.proofs.guard.Guard.wait.Goals as goal

pub returns-else-gone : goal.returns-else-gone
returns-else-gone c =
    let g = c.self.inside in
    late_waited (record { rules = g.rules; stage = g.stage; outer = half_of g.outer; inner = half_of g.inner }) c.args.gone _ _ c.if-gone.false
    (c.tell_late.ensures g.outer.framer) (c.tell_late-else-gone.ensures g.inner.framer)
    ∙ ap (waited c.args.gone true) c.self.view_is
