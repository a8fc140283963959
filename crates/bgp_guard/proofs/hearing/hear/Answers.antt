use Rattle.bgp_guard.proofs.Prelude.{sym, ◌∙◌, sight_of}
use Rattle.bgp_guard.proofs.Fronts.{fed_is_heard}
use Rattle.bgp_guard.proofs.hearing.hear.Goals as goal

pub returns-clause-heard : goal.returns-clause-heard
returns-clause-heard c =
    let fed = c.feed-taken.ensures in
    fed_is_heard c.args.rules.now c.args.silent (sight_of c.args.stage.now c.args.this.now c.args.other.now) c.args.piece.now c.feed-taken.result
    c.settle-came.result (sight_of c.settle-came.new.stage c.settle-came.new.this c.settle-came.new.other) c.feed-taken.new.self
    (sym c.listens.ensures ∙ c.if-not-listens.false) c.requires.waits (fed.takes, fed.progress c.requires.waits) fed.appends fed.can_hold c.settle-came.ensures.settled
