use Rattle.bgp_engine.proofs.Prelude.{IfOk-weaker, walk_of}
use Rattle.bgp_engine.proofs.Startings.{walks_on, walks_over}
use Rattle.bgp_engine.proofs.starting.Starting.walk_on.Goals as goal

pub returns-then-branch-clause-takes : goal.returns-then-branch-clause-takes
returns-then-branch-clause-takes g c =
    let page = g.P.Page in
    let self = c.args.self.now in
    walks_over (walk_of page.rules self.walk) (walk_of page.rules c.take.new.self) (page.told self.walk.page) (page.told c.take.new.self.page) self.front c.args.later.now
    (rw (c.if-branch.true, c.octets.ensures) at c.in_ok-take.ensures.takes)

pub returns-clause-takes : goal.returns-clause-takes
returns-clause-takes g c =
    let page = g.P.Page in
    let self = c.args.self.now in
    let first = rw (c.if-branch.false, c.octets.ensures) at c.in_ok-take.ensures.takes in
    IfOk-weaker c.take-2.result _ _
    (λ over p. walks_on (walk_of page.rules self.walk) (walk_of page.rules c.take.new.self) (walk_of page.rules c.take-2.new.self) (page.told self.walk.page) (page.told c.take.new.self.page) (page.told c.take-2.new.self.page) self.front c.args.later.now over first p)
    c.take-2.ensures.takes
