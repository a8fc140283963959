use Rattle.bgp_session.proofs.Prelude.{◌≡◌, length, Rests, Delivers, delivers, trace}
use Rattle.bgp_session.proofs.playing.deliver.Given as goal

-- the pieces so far were passed, and the others remain
abbrev pub invariant-pieces : goal.invariant-pieces
invariant-pieces g l =
    Rests l.pairing
    × Delivers
    (record { honest = g.W.Wire.honest l.initial.wire; after = g.O.Observer.after; old = l.initial.answers; new = l.answers; trace_old = trace (g.W.Wire.failed l.initial.wire) (g.W.Wire.calls l.initial.wire) (g.O.Observer.seen l.initial.observer); trace_new = trace (g.W.Wire.failed l.wire) (g.W.Wire.calls l.wire) (g.O.Observer.seen l.observer) })
    (delivers l.fn.side l.fn.count l.fn.pairing) l.fn.side l.octets.items l.pairing
    × (g.W.Wire.honest l.wire ≡ g.W.Wire.honest l.initial.wire)

abbrev pub decreases-pieces : goal.decreases-pieces
decreases-pieces g l = length l.octets.items
