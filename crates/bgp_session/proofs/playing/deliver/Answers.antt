use Rattle.bgp_session.proofs.Prelude.{length, sym, ap, ◌∙◌, refl, arith, delivers, trace, length-drop}
use Rattle.bgp_session.proofs.Plays.{delivers_first, goes_further, stops_there, ends_empty, ends_left}
use Rattle.std.specs.Vec.{vec_len}
use Rattle.bgp_session.proofs.Plays.{some_left, none_left}
use Rattle.bgp_session.proofs.playing.deliver.Goals as goal
use Rattle.bgp_session.proofs.playing.deliver.Goals.{then-pieces-test+else-not-has_left, else-pieces-test}

pub pieces-init : goal.pieces-init
pieces-init g c = (
  c.in_ok-octets.ensures.rests c.requires.rests,
  delivers_first (g.W.Wire.honest c.args.wire.now) g.O.Observer.after c.args.answers.now (trace (g.W.Wire.failed c.args.wire.now) (g.W.Wire.calls c.args.wire.now) (g.O.Observer.seen c.args.observer.now)) c.args.side c.args.count c.args.pairing.now c.draw.new.self c.in_ok-octets.octets.items
      c.in_ok-octets.ensures.octets c.in_ok-octets.ensures.drawn,
  refl,
)

pub returns-then-not-branch-clause-plays : goal.returns-then-not-branch-clause-plays
returns-then-not-branch-clause-plays g c =
    stops_there (g.W.Wire.honest c.args.wire.now) (g.W.Wire.honest c.pieces.wire) c.pieces.invariant.2 g.O.Observer.after c.args.side (delivers c.args.side c.args.count c.args.pairing.now)
    c.args.answers.now c.pieces.answers c.pass.new.answers (trace (g.W.Wire.failed c.args.wire.now) (g.W.Wire.calls c.args.wire.now) (g.O.Observer.seen c.args.observer.now)) (trace (g.W.Wire.failed c.pieces.wire) (g.W.Wire.calls c.pieces.wire) (g.O.Observer.seen c.pieces.observer)) (trace (g.W.Wire.failed c.pass.new.wire) (g.W.Wire.calls c.pass.new.wire) (g.O.Observer.seen c.pass.new.observer))
    c.pieces.octets.items c.in_ok-piece.piece.items c.take_front.new.octets.items c.pieces.pairing c.pass.new.pairing c.pieces.invariant.1
    (some_left c.is_empty.result (vec_len c.pieces.octets) (length c.pieces.octets.items) c.is_empty.ensures c.pieces-test.true c.pieces.octets.ok.0)
    (sym c.has_left.ensures ∙ c.if-not-has_left.true) c.in_ok-piece.ensures.front c.in_ok-piece.ensures.back c.in_ok-pass.field-0 c.in_ok-pass.ensures.passes c.if-not-branch.true

pub pieces-preserved : goal.pieces-preserved
pieces-preserved g c = (
  c.in_ok-pass.ensures.rests,
  goes_further (g.W.Wire.honest c.args.wire.now) (g.W.Wire.honest c.pieces.wire) c.pieces.invariant.2 g.O.Observer.after c.args.side (delivers c.args.side c.args.count c.args.pairing.now)
      c.args.answers.now c.pieces.answers c.pass.new.answers (trace (g.W.Wire.failed c.args.wire.now) (g.W.Wire.calls c.args.wire.now) (g.O.Observer.seen c.args.observer.now)) (trace (g.W.Wire.failed c.pieces.wire) (g.W.Wire.calls c.pieces.wire) (g.O.Observer.seen c.pieces.observer)) (trace (g.W.Wire.failed c.pass.new.wire) (g.W.Wire.calls c.pass.new.wire) (g.O.Observer.seen c.pass.new.observer))
      c.pieces.octets.items c.in_ok-piece.piece.items c.take_front.new.octets.items c.pieces.pairing c.pass.new.pairing c.pieces.invariant.1
      (some_left c.is_empty.result (vec_len c.pieces.octets) (length c.pieces.octets.items) c.is_empty.ensures c.pieces-test.true c.pieces.octets.ok.0)
      (sym c.has_left.ensures ∙ c.if-not-has_left.true) c.in_ok-piece.ensures.front c.in_ok-piece.ensures.back c.in_ok-pass.field-0 c.in_ok-pass.ensures.passes c.if-not-branch.false,
  c.pass.ensures.honest ∙ c.pieces.invariant.2,
)

pub pieces-smaller : goal.pieces-smaller
pieces-smaller g c =
    let some = some_left c.is_empty.result (vec_len c.pieces.octets) (length c.pieces.octets.items) c.is_empty.ensures c.pieces-test.true c.pieces.octets.ok.0 in
    let fewer = ap length c.in_ok-piece.ensures.back in
    let left = length-drop 4096 c.pieces.octets.items in
    omega arith

pub returns-clause-plays : goal.returns-clause-plays
returns-clause-plays g c = elim c.pieces-test.branch [
  | then-pieces-test+else-not-has_left w ↦ ends_left _ _ _ _ _ c.pieces.invariant.1 (sym w.has_left.ensures ∙ w.if-not-has_left.false)
  | else-pieces-test w ↦ ends_empty _ _ _ _ _ c.pieces.invariant.1 (none_left c.is_empty.result (vec_len c.pieces.octets) c.pieces.octets.items c.is_empty.ensures w.pieces-test.false c.pieces.octets.ok.0)
]
