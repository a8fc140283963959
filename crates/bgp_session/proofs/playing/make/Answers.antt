use Rattle.bgp_session.proofs.Prelude.{refl, Event, Move, tells, tells_seen, refused_at, refused_seen, lost, lost_seen, sends, sends_seen}
use Rattle.bgp_session.proofs.Plays.{moves_quietly}
use Rattle.bgp_session.proofs.playing.make.Goals as goal

pub returns-in-Start-clause-plays : goal.returns-in-Start-clause-plays
returns-in-Start-clause-plays g c =
    moves_quietly (g.W.Wire.honest c.args.wire.now) g.O.Observer.after c.args.answers.now (g.W.Wire.failed c.args.wire.now) (g.W.Wire.calls c.args.wire.now)
    (g.O.Observer.seen c.args.observer.now) (g.O.Observer.seen c.tell.new.observer) c.args.one.now (Move.Start c.in-Start.side) c.args.pairing.now c.tell.new.self (tells c.in-Start.side Event.Start c.args.pairing.now)
    (tells_seen c.in-Start.side Event.Start c.args.pairing.now) c.tell.result c.in-Start.is (λ later. refl) c.tell.ensures.told c.tell.ensures.seen

pub returns-in-Stop-clause-plays : goal.returns-in-Stop-clause-plays
returns-in-Stop-clause-plays g c =
    moves_quietly (g.W.Wire.honest c.args.wire.now) g.O.Observer.after c.args.answers.now (g.W.Wire.failed c.args.wire.now) (g.W.Wire.calls c.args.wire.now)
    (g.O.Observer.seen c.args.observer.now) (g.O.Observer.seen c.tell-in-Stop.new.observer) c.args.one.now (Move.Stop c.in-Stop.side) c.args.pairing.now c.tell-in-Stop.new.self (tells c.in-Stop.side Event.Stop c.args.pairing.now)
    (tells_seen c.in-Stop.side Event.Stop c.args.pairing.now) c.tell-in-Stop.result c.in-Stop.is (λ later. refl) c.tell-in-Stop.ensures.told c.tell-in-Stop.ensures.seen

pub returns-in-Refuse-clause-plays : goal.returns-in-Refuse-clause-plays
returns-in-Refuse-clause-plays g c =
    moves_quietly (g.W.Wire.honest c.args.wire.now) g.O.Observer.after c.args.answers.now (g.W.Wire.failed c.args.wire.now) (g.W.Wire.calls c.args.wire.now)
    (g.O.Observer.seen c.args.observer.now) (g.O.Observer.seen c.refuse.new.observer) c.args.one.now (Move.Refuse c.in-Refuse.side) c.args.pairing.now c.refuse.new.self (refused_at c.in-Refuse.side c.args.pairing.now)
    (refused_seen c.in-Refuse.side c.args.pairing.now) c.refuse.result c.in-Refuse.is (λ later. refl) c.refuse.ensures.told c.refuse.ensures.seen

pub returns-in-Lose-clause-plays : goal.returns-in-Lose-clause-plays
returns-in-Lose-clause-plays g c =
    moves_quietly (g.W.Wire.honest c.args.wire.now) g.O.Observer.after c.args.answers.now (g.W.Wire.failed c.args.wire.now) (g.W.Wire.calls c.args.wire.now)
    (g.O.Observer.seen c.args.observer.now) (g.O.Observer.seen c.lose.new.observer) c.args.one.now Move.Lose c.args.pairing.now c.lose.new.self (lost c.args.pairing.now)
    (lost_seen c.args.pairing.now) c.lose.result c.in-Lose.is (λ later. refl) c.lose.ensures.lost c.lose.ensures.seen

pub returns-in-Expire-clause-plays : goal.returns-in-Expire-clause-plays
returns-in-Expire-clause-plays g c =
    moves_quietly (g.W.Wire.honest c.args.wire.now) g.O.Observer.after c.args.answers.now (g.W.Wire.failed c.args.wire.now) (g.W.Wire.calls c.args.wire.now)
    (g.O.Observer.seen c.args.observer.now) (g.O.Observer.seen c.tell-in-Expire.new.observer) c.args.one.now (Move.Expire c.in-Expire.side c.in-Expire.timer) c.args.pairing.now c.tell-in-Expire.new.self (tells c.in-Expire.side (Event.Expired c.in-Expire.timer) c.args.pairing.now)
    (tells_seen c.in-Expire.side (Event.Expired c.in-Expire.timer) c.args.pairing.now) c.tell-in-Expire.result c.in-Expire.is (λ later. refl) c.tell-in-Expire.ensures.told c.tell-in-Expire.ensures.seen

pub returns-in-Send-clause-plays : goal.returns-in-Send-clause-plays
returns-in-Send-clause-plays g c =
    moves_quietly (g.W.Wire.honest c.args.wire.now) g.O.Observer.after c.args.answers.now (g.W.Wire.failed c.args.wire.now) (g.W.Wire.calls c.args.wire.now)
    (g.O.Observer.seen c.args.observer.now) (g.O.Observer.seen c.send.new.observer) c.args.one.now (Move.Send c.in-Send.side c.in-Send.update) c.args.pairing.now c.send.new.self (sends c.in-Send.side c.in-Send.update c.args.pairing.now)
    (sends_seen c.in-Send.side c.in-Send.update c.args.pairing.now) c.send.result c.in-Send.is (λ later. refl) c.send.ensures.sent c.send.ensures.seen
