use Rattle.bgp_engine.proofs.Prelude.{option_map, arith, ap, length, err_from_is_err_and, wanted-bounds, starts_of, walk_of}
use Rattle.bgp_frame.specs.Kind.{plain}
use Rattle.bgp_frame.specs.steps.AreTypes.{plain-are}
use Rattle.bgp_engine.proofs.Startings.{closes_first, closes_memory, extending, known_none}
use Rattle.bgp_engine.proofs.starting.Starting.finish_first.Goals as goal

pub take-requires-clause-room : goal.take-requires-clause-room
take-requires-clause-room g c =
    let bounds = wanted-bounds plain plain-are c.args.self.now.front in
    let held = ap (λ w. length w.held) c.requires.first.fresh in
    let place = ap (λ w. w.place) c.requires.first.fresh in
    rw c.octets.ensures (omega (arith, c.requires.first.waits, bounds.1, held, place))

pub returns-in_err-take : goal.returns-in_err-take
returns-in_err-take g c =
    let page = g.P.Page in
    let self = c.args.self.now in
    let theirs = option_map (λ t. t.now) self.theirs in
    let from = starts_of page.fits page.rules page.plan self.walk.refreshes theirs self.walk.page in
    let extends = extending page.fits page.rules page.plan self.walk.page self.walk.refreshes theirs in
    let p = err_from_is_err_and c.from_residual.result c.from_residual.ensures.1 in
    rw (p.1, p.2, c.requires.stage) (closes_memory from extends self.front (walk_of page.rules self.walk) _ _ c.requires.first.octets)

pub returns : goal.returns
returns g c =
    let page = g.P.Page in
    let self = c.args.self.now in
    let theirs = option_map (λ t. t.now) self.theirs in
    let from = starts_of page.fits page.rules page.plan self.walk.refreshes theirs self.walk.page in
    let extends = extending page.fits page.rules page.plan self.walk.page self.walk.refreshes theirs in
    let plain = known_none page.fits page.rules page.plan self.walk.refreshes self.theirs self.walk.page c.requires.known in
    rw c.requires.stage
    (closes_first from extends self.front (walk_of page.rules self.walk) c.requires.first plain _ _ _ _ _ _ (rw c.octets.ensures at c.in_ok-take.ensures.takes) c.finish.ensures)
