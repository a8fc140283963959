use Rattle.bgp_session.proofs.Prelude.{[], arith, refl, sym, ap, subst, ◌∙◌, fresh_rests, Rests, World, begins, ran, all_moved, trace}
use Rattle.bgp_session.proofs.Plays.{plays_quietly, plays_next}
use Rattle.bgp_session.proofs.Handed.{all_handed, all_observed}
use Rattle.bgp_session.proofs.Ranges.{sends_next, all_sent}
use Rattle.bgp_session.proofs.playing.run.Goals as goal

pub moves-init : goal.moves-init
moves-init g c = (
  subst Rests (sym c.new-pairing.ensures) (fresh_rests c.args.a, fresh_rests c.args.b),
  plays_quietly (g.W.Wire.honest c.args.wire.now) g.O.Observer.after c.new-answers.result (trace (g.W.Wire.failed c.args.wire.now) (g.W.Wire.calls c.args.wire.now) (g.O.Observer.seen c.args.observer.now)) (all_moved [] (begins c.args.a c.args.b)) (ran c.new-pairing.result)
      (λ later. ap (λ (w : World). ran w later) (sym c.new-pairing.ensures)),
  refl,
  λ honest later. tt,
)

pub moves-preserved : goal.moves-preserved
moves-preserved g c = (
  c.in_ok-play.ensures.rests,
  plays_next (g.W.Wire.honest c.args.wire.now) (g.W.Wire.honest c.moves.wire) c.moves.invariant.2 g.O.Observer.after (begins c.args.a c.args.b)
      c.new-answers.result c.moves.answers c.play.new.answers (trace (g.W.Wire.failed c.args.wire.now) (g.W.Wire.calls c.args.wire.now) (g.O.Observer.seen c.args.observer.now)) (trace (g.W.Wire.failed c.moves.wire) (g.W.Wire.calls c.moves.wire) (g.O.Observer.seen c.moves.observer)) (trace (g.W.Wire.failed c.play.new.wire) (g.W.Wire.calls c.play.new.wire) (g.O.Observer.seen c.play.new.observer)) c.moves.pairing c.play.new.pairing
      c.args.moves.now c.moves.one-index c.one-item.result c.moves-test.true c.one-item.is c.moves.invariant.1 c.in_ok-play.ensures.plays,
  c.play.ensures.honest ∙ c.moves.invariant.2,
  sends_next (g.W.Wire.honest c.args.wire.now) (g.W.Wire.honest c.moves.wire) g.O.Observer.after (begins c.args.a c.args.b) c.new-answers.result c.moves.answers c.play.new.answers c.new-answers.ensures
      (trace (g.W.Wire.failed c.args.wire.now) (g.W.Wire.calls c.args.wire.now) (g.O.Observer.seen c.args.observer.now)) (trace (g.W.Wire.failed c.moves.wire) (g.W.Wire.calls c.moves.wire) (g.O.Observer.seen c.moves.observer)) (trace (g.W.Wire.failed c.play.new.wire) (g.W.Wire.calls c.play.new.wire) (g.O.Observer.seen c.play.new.observer)) c.moves.pairing c.play.new.pairing
      c.args.moves.now c.moves.one-index c.one-item.result c.moves-test.true c.one-item.is c.moves.invariant.1 c.in_ok-play.ensures.plays c.in_ok-play.ensures.ranges c.moves.invariant.3,
)

pub returns-clause-ranges : goal.returns-clause-ranges
returns-clause-ranges g c = λ honest.
    all_sent (g.W.Wire.honest c.args.wire.now) c.args.moves.now (begins c.args.a c.args.b) c.moves.pairing c.moves.answers c.moves.one-index (omega (arith, c.moves-test.false)) c.moves.invariant.3
    honest c.report.result c.report.ensures

pub returns-clause-handed : goal.returns-clause-handed
returns-clause-handed g c = λ honest.
    all_handed (g.W.Wire.honest c.args.wire.now) g.O.Observer.after c.args.a c.args.b c.args.moves.now c.moves.pairing c.new-answers.result c.moves.answers c.new-answers.ensures
    (trace (g.W.Wire.failed c.args.wire.now) (g.W.Wire.calls c.args.wire.now) (g.O.Observer.seen c.args.observer.now)) (trace (g.W.Wire.failed c.moves.wire) (g.W.Wire.calls c.moves.wire) (g.O.Observer.seen c.moves.observer)) c.moves.one-index (omega (arith, c.moves-test.false))
    c.moves.invariant.1 honest c.report.result c.report.ensures

pub returns-clause-seen : goal.returns-clause-seen
returns-clause-seen g c = λ honest.
    all_observed (g.W.Wire.honest c.args.wire.now) g.O.Observer.after c.args.a c.args.b c.args.moves.now c.moves.pairing c.new-answers.result c.moves.answers c.new-answers.ensures
    (trace (g.W.Wire.failed c.args.wire.now) (g.W.Wire.calls c.args.wire.now) (g.O.Observer.seen c.args.observer.now)) (trace (g.W.Wire.failed c.moves.wire) (g.W.Wire.calls c.moves.wire) (g.O.Observer.seen c.moves.observer)) c.moves.one-index (omega (arith, c.moves-test.false))
    c.moves.invariant.1 honest c.report.result c.report.ensures
