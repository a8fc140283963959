use Rattle.bgp_session.proofs.Prelude.{Bool, sym, ap, ◌∙◌, trace, can_join, joined_if, ran}
use Rattle.bgp_session.proofs.Plays.{plays_quietly, joins_asked}
use Rattle.bgp_session.proofs.playing.join.Goals as goal

pub returns-then-not-can_join-clause-plays : goal.returns-then-not-can_join-clause-plays
returns-then-not-can_join-clause-plays g c =
    plays_quietly (g.W.Wire.honest c.args.wire.now) g.O.Observer.after c.args.answers.now (trace (g.W.Wire.failed c.args.wire.now) (g.W.Wire.calls c.args.wire.now) (g.O.Observer.seen c.args.observer.now))
    (joined_if (can_join c.args.pairing.now) c.args.pairing.now) (ran c.args.pairing.now)
    (λ later. ap (λ (can : Bool). joined_if can c.args.pairing.now later) (sym c.can_join.ensures ∙ c.if-not-can_join.true))

pub returns-clause-plays : goal.returns-clause-plays
returns-clause-plays g c =
    joins_asked (g.W.Wire.honest c.args.wire.now) g.O.Observer.after c.args.answers.now c.push.new.self
    (trace (g.W.Wire.failed c.args.wire.now) (g.W.Wire.calls c.args.wire.now) (g.O.Observer.seen c.args.observer.now))
    (trace (g.W.Wire.failed c.join-joined.new.self) (g.W.Wire.calls c.join-joined.new.self) (g.O.Observer.seen c.connect.new.observer))
    c.args.pairing.now c.connect.new.self (can_join c.args.pairing.now) c.join-joined.result c.connect.result (sym c.can_join.ensures ∙ c.if-not-can_join.false)
    c.in_ok-push.ensures.ok c.join-joined.ensures.failed c.join-joined.ensures.kept c.connect.ensures.joined c.connect.ensures.seen
