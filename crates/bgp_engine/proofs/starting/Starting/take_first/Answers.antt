use Rattle.bgp_engine.proofs.Prelude.{◌++◌, take, option_map, arith, AreOctets, AreOctets-append, AreOctets-take, IfOk-weaker, err_from_is_err_and, starts_of, walk_of}
use Rattle.bgp_engine.proofs.Startings.{extending, first_total, on_err, takes_agreed, takes_part, takes_unagreed}
use Rattle.bgp_engine.proofs.starting.Starting.take_first.Goals as goal

pub returns-in_err-self-clause-memory : goal.returns-in_err-self-clause-memory
returns-in_err-self-clause-memory g c =
    let page = g.P.Page in
    let self = c.args.self.now in
    let theirs = option_map (λ t. t.now) self.theirs in
    let from = starts_of page.fits page.rules page.plan self.walk.refreshes theirs self.walk.page in
    let extends = extending page.fits page.rules page.plan self.walk.page self.walk.refreshes theirs in
    let p = err_from_is_err_and c.from_residual.result c.from_residual.ensures.1 in
    rw (p.1, c.requires.stage) (first_total from extends self.front (walk_of page.rules self.walk) c.requires.first.octets)

pub returns-in-First-clause-takes : goal.returns-in-First-clause-takes
returns-in-First-clause-takes g c =
    let page = g.P.Page in
    let self = c.args.self.now in
    let theirs = option_map (λ t. t.now) self.theirs in
    let from = starts_of page.fits page.rules page.plan self.walk.refreshes theirs self.walk.page in
    let extends = extending page.fits page.rules page.plan self.walk.page self.walk.refreshes theirs in
    let octets = c.args.octets.now in
    let n = c.feed-taken.result in
    let are : AreOctets (self.front ++ take n octets) = AreOctets-append self.front _ c.requires.first.octets (AreOctets-take n octets (λ i. omega (arith, c.type_inv.octets i))) in
    let same = c.in_ok-self.ensures.first c.in-First.is in
    let settles = rw (c.in-First.is, same, c.feed-taken.ensures.appends) at c.in_ok-self.ensures.settles in
    rw (c.requires.stage, c.in-First.is, same, c.feed-taken.ensures.appends)
    (takes_part from extends self.front (walk_of page.rules self.walk) (walk_of page.rules self.walk) octets n (page.told self.walk.page) (page.told self.walk.page) (self.front ++ take n octets) are c.requires.first.ready c.requires.first.fresh c.feed-taken.ensures.takes settles)

pub returns-in-Unagreed-clause-takes : goal.returns-in-Unagreed-clause-takes
returns-in-Unagreed-clause-takes g c =
    let page = g.P.Page in
    let self = c.args.self.now in
    let theirs = option_map (λ t. t.now) self.theirs in
    let from = starts_of page.fits page.rules page.plan self.walk.refreshes theirs self.walk.page in
    let extends = extending page.fits page.rules page.plan self.walk.page self.walk.refreshes theirs in
    let w1 = walk_of page.rules c.begin.new.self.walk in
    let from1 = starts_of page.fits page.rules page.plan c.begin.new.self.walk.refreshes (option_map (λ t. t.now) c.begin.new.self.theirs) c.begin.new.self.walk.page in
    rw (c.requires.stage, c.in-Unagreed.is)
    (takes_unagreed from extends self.front (walk_of page.rules self.walk) w1 c.args.octets.now c.feed-taken.result (page.told self.walk.page) (page.told c.begin.new.self.walk.page) c.begin.new.self.front _
    (rw (c.in-Unagreed.is, c.feed-taken.ensures.appends) at c.in_ok-self.ensures.settles) from1)

pub returns-in-Agreed-clause-takes : goal.returns-in-Agreed-clause-takes
returns-in-Agreed-clause-takes g c =
    let page = g.P.Page in
    let self = c.args.self.now in
    let theirs = option_map (λ t. t.now) self.theirs in
    let from = starts_of page.fits page.rules page.plan self.walk.refreshes theirs self.walk.page in
    let extends = extending page.fits page.rules page.plan self.walk.page self.walk.refreshes theirs in
    let begun = c.begin.new.self in
    let done = c.walk_on.new.self in
    let w1 = walk_of page.rules begun.walk in
    let w2 = walk_of page.rules done.walk in
    let from2 = starts_of page.fits page.rules page.plan done.walk.refreshes (option_map (λ t. t.now) begun.theirs) done.walk.page in
    let settles = rw (c.in-Agreed.is, c.feed-taken.ensures.appends) at c.in_ok-self.ensures.settles in
    let agreed = takes_agreed from extends self.front (walk_of page.rules self.walk) w1 c.args.octets.now c.feed-taken.result (page.told self.walk.page) (page.told begun.walk.page) begun.front in
    rw (c.requires.stage, c.walk_on.ensures.same, c.in-Agreed.is)
    (IfOk-weaker c.walk_on.result _ _ (λ over p. agreed from2 begun.front w2 (page.told done.walk.page) over settles p) (rw c.split_at.ensures.back at c.walk_on.ensures.takes))

pub returns-in-Agreed-clause-memory : goal.returns-in-Agreed-clause-memory
returns-in-Agreed-clause-memory g c =
    let page = g.P.Page in
    let self = c.args.self.now in
    let theirs = option_map (λ t. t.now) self.theirs in
    let from = starts_of page.fits page.rules page.plan self.walk.refreshes theirs self.walk.page in
    let extends = extending page.fits page.rules page.plan self.walk.page self.walk.refreshes theirs in
    rw c.requires.stage (on_err c.walk_on.result _ (first_total from extends self.front (walk_of page.rules self.walk) c.requires.first.octets))
