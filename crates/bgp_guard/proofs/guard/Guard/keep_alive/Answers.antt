use Rattle.bgp_guard.proofs.Prelude.{ap, ◌∙◌, half_of, kept_alive}
use Rattle.bgp_guard.proofs.Sights.{kept_both, keeps_by}
use Rattle.bgp_guard.proofs.guard.Guard.keep_alive.Goals as goal

pub returns-then-self-2 : goal.returns-then-self-2
returns-then-self-2 c =
    let g = c.self.inside in
    kept_both (record { rules = g.rules; stage = g.stage; outer = half_of g.outer; inner = half_of g.inner }) c.agreed_hold-hold.result _ _ c.agreed_hold-hold.ensures
    (keeps_by c.agreed_hold-hold.result g.outer.line.ready g.inner.line.ready c.if-hold-ne0.true c.if-self.true c.if-self-2.true)
    (c.keep.ensures.kept g.outer.framer) (c.keep-then-self-2.ensures.kept g.inner.framer)
    ∙ ap kept_alive c.self.view_is
