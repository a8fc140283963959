use Rattle.bgp_engine.proofs.Prelude.{option_map, sym, subst, ◌∙◌, Stage, ReadyAt, starts_of, walk_of}
use Rattle.bgp_engine.proofs.Startings.{closes_none, closes_unagreed, extending, unknown}
use Rattle.bgp_engine.proofs.starting.StartingEngine.finish.Goals as goal

pub returns-in-Unagreed : goal.returns-in-Unagreed
returns-in-Unagreed g c =
    let page = g.P.Page in
    let self = c.args.self.now in
    let theirs = option_map (λ t. t.now) self.theirs in
    let from = starts_of page.fits page.rules page.plan self.walk.refreshes theirs self.walk.page in
    rw c.in-Unagreed.is (closes_unagreed from self.front (walk_of page.rules self.walk) (page.told self.walk.page) _)

pub returns-in-First : goal.returns-in-First
returns-in-First g c =
    let page = g.P.Page in
    let self = c.args.self.now in
    let theirs = option_map (λ t. t.now) self.theirs in
    let from = starts_of page.fits page.rules page.plan self.walk.refreshes theirs self.walk.page in
    let extends = extending page.fits page.rules page.plan self.walk.page self.walk.refreshes theirs in
    let w = walk_of page.rules self.walk in
    let first = subst (λ (s : Stage). ReadyAt s self.front w) c.in-First.is c.requires in
    rw c.in-First.is
    (closes_none from extends self.front w (page.told self.walk.page) _ first.waits
    (unknown page.fits page.rules page.plan self.walk.refreshes self.theirs self.walk.page (sym c.is_some.ensures ∙ c.if-is_some.true)))
