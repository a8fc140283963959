use Rattle.bgp_engine.proofs.Prelude.{option_map, ap, refl, sym, ◌∙◌, starts_of}
use Rattle.bgp_engine.proofs.Startings.{extending, known, unknown, settles_fault, settles_fault_unagreed, settles_first, settles_handed, settles_plain, settles_unagreed}
use Rattle.bgp_engine.proofs.Walks.{fresh_again, fresh_ready}
use Rattle.bgp_engine.proofs.Wides.{typed_under, under}
use Rattle.bgp_engine.proofs.starting.Starting.begin.Goals as goal

pub returns-in-More-clause-settles : goal.returns-in-More-clause-settles
returns-in-More-clause-settles g c =
    let page = g.P.Page in
    let self = c.args.self.now in
    let theirs = option_map (λ t. t.now) self.theirs in
    let from = starts_of page.fits page.rules page.plan self.walk.refreshes theirs self.walk.page in
    let extends = extending page.fits page.rules page.plan self.walk.page self.walk.refreshes theirs in
    settles_first from extends self.front c.requires.octets _ _ c.in-More.ensures

pub returns-in-Fault-clause-settles : goal.returns-in-Fault-clause-settles
returns-in-Fault-clause-settles g c =
    let page = g.P.Page in
    let self = c.args.self.now in
    let theirs = option_map (λ t. t.now) self.theirs in
    let from = starts_of page.fits page.rules page.plan self.walk.refreshes theirs self.walk.page in
    let extends = extending page.fits page.rules page.plan self.walk.page self.walk.refreshes theirs in
    settles_fault_unagreed from extends self.front c.requires.octets _ c.in-Fault.field-0 c.in-Fault.ensures.0 c.in-Fault.ensures.1 _ _ _
    (unknown page.fits page.rules page.plan self.walk.refreshes self.theirs self.walk.page (sym c.is_some.ensures ∙ c.if-is_some.true))

pub returns-in-Fault-2-clause-settles : goal.returns-in-Fault-2-clause-settles
returns-in-Fault-2-clause-settles g c =
    let page = g.P.Page in
    let self = c.args.self.now in
    let theirs = option_map (λ t. t.now) self.theirs in
    let from = starts_of page.fits page.rules page.plan self.walk.refreshes theirs self.walk.page in
    let extends = extending page.fits page.rules page.plan self.walk.page self.walk.refreshes theirs in
    settles_fault from extends self.front c.requires.octets _ c.in-Fault-2.field-0 c.in-Fault-2.ensures.0 c.in-Fault-2.ensures.1 _ c.requires.ready c.requires.fresh
    (known page.fits page.rules page.plan self.walk.refreshes self.theirs self.walk.page (sym c.is_some.ensures ∙ c.if-is_some.false))

pub returns-in-Unagreed-clause-settles : goal.returns-in-Unagreed-clause-settles
returns-in-Unagreed-clause-settles g c =
    let page = g.P.Page in
    let self = c.args.self.now in
    let theirs = option_map (λ t. t.now) self.theirs in
    let from = starts_of page.fits page.rules page.plan self.walk.refreshes theirs self.walk.page in
    let extends = extending page.fits page.rules page.plan self.walk.page self.walk.refreshes theirs in
    settles_unagreed from extends self.front c.requires.octets _ _ c.in-Frame.ensures.0 _ _ _ _ (rw c.in-Unagreed.is at c.in_ok-why-in-Frame.ensures)

pub returns-in-Plain-clause-settles : goal.returns-in-Plain-clause-settles
returns-in-Plain-clause-settles g c =
    let page = g.P.Page in
    let self = c.args.self.now in
    let theirs = option_map (λ t. t.now) self.theirs in
    let from = starts_of page.fits page.rules page.plan self.walk.refreshes theirs self.walk.page in
    let extends = extending page.fits page.rules page.plan self.walk.page self.walk.refreshes theirs in
    let accepted = c.in-Plain.refreshes in
    let rules = page.rules c.begin.new.page in
    let w = under accepted rules self.walk.place self.walk.tally self.walk.ended in
    let fresh = fresh_again _ w _ _ c.requires.fresh refl in
    rw c.accept.ensures
    (settles_plain from extends self.front c.requires.octets (page.told self.walk.page) _ c.in-Frame.ensures.0 w (fresh_ready w (typed_under accepted rules _ _ _ _) fresh) fresh (page.told c.begin.new.page)
    (rw c.in-Plain.is at c.in_ok-why-in-Frame.ensures))

pub returns-in-Handed-clause-settles : goal.returns-in-Handed-clause-settles
returns-in-Handed-clause-settles g c =
    let page = g.P.Page in
    let self = c.args.self.now in
    let theirs = option_map (λ t. t.now) self.theirs in
    let from = starts_of page.fits page.rules page.plan self.walk.refreshes theirs self.walk.page in
    let extends = extending page.fits page.rules page.plan self.walk.page self.walk.refreshes theirs in
    let accepted = c.in-Handed.refreshes in
    let rules = page.rules c.begin.new.page in
    let w = under accepted rules self.walk.place self.walk.tally self.walk.ended in
    let fresh = fresh_again _ w _ _ c.requires.fresh refl in
    let place = ap (λ x. x.place) c.requires.fresh in
    let tally = ap (λ x. x.tally) c.requires.fresh in
    rw (c.clear.ensures, c.count.ensures, c.accept-in-Handed.ensures, place, tally)
    (settles_handed from extends self.front c.requires.octets (page.told self.walk.page) _ c.in-Frame.ensures.0 w (fresh_ready w (typed_under accepted rules _ _ _ _) fresh) (page.told c.begin.new.page) c.in-Frame.frame.len c.in-Frame.ensures.1
    (rw c.in-Handed.is at c.in_ok-why-in-Frame.ensures))
