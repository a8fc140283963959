use Rattle.bgp_session.proofs.Prelude.{refl, trace}
use Rattle.bgp_session.proofs.Resting.{on_ok}
use Rattle.bgp_session.proofs.Plays.{grows_none, plays_cut}
use Rattle.bgp_session.proofs.playing.play.Goals as goal

pub returns-clause-plays : goal.returns-clause-plays
returns-clause-plays g c =
    on_ok (plays_cut (g.W.Wire.honest c.args.wire.now) g.O.Observer.after c.args.answers.now c.make.new.answers
    (trace (g.W.Wire.failed c.args.wire.now) (g.W.Wire.calls c.args.wire.now) (g.O.Observer.seen c.args.observer.now))
    (trace (g.W.Wire.failed c.args.wire.now) (g.W.Wire.calls c.args.wire.now) (g.O.Observer.seen c.begun.new.self))
    (trace (g.W.Wire.failed c.make.new.wire) (g.W.Wire.calls c.make.new.wire) (g.O.Observer.seen c.make.new.observer))
    (trace (g.W.Wire.failed c.cut_behind.new.wire) (g.W.Wire.calls c.cut_behind.new.wire) (g.O.Observer.seen c.cut_behind.new.observer))
    c.args.one.now c.args.pairing.now c.make.new.pairing c.stands-stood.result c.stands.result c.stands-stood.ensures c.stands.ensures
    refl (grows_none (g.W.Wire.calls c.args.wire.now)) c.in_ok-begun.ensures c.in_ok-make.ensures.plays c.cut_behind.ensures.failed c.cut_behind.ensures.kept)
    c.cut_behind.result c.cut_behind.ensures.seen
