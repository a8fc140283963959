use Rattle.bgp_session.proofs.Prelude.{◌≡◌, take, Rests, Plays, HaveSoFar, begins, all_moved, trace}
use Rattle.bgp_session.proofs.playing.run.Given as goal

-- the moves so far were played
abbrev pub invariant-moves : goal.invariant-moves
invariant-moves g l =
    Rests l.pairing
    × Plays
    (record { honest = g.W.Wire.honest l.initial.wire; after = g.O.Observer.after; old = l.initial.answers; new = l.answers; trace_old = trace (g.W.Wire.failed l.initial.wire) (g.W.Wire.calls l.initial.wire) (g.O.Observer.seen l.initial.observer); trace_new = trace (g.W.Wire.failed l.wire) (g.W.Wire.calls l.wire) (g.O.Observer.seen l.observer) })
    (all_moved (take l.one-index l.moves) (begins l.fn.a l.fn.b)) l.pairing
    × (g.W.Wire.honest l.wire ≡ g.W.Wire.honest l.initial.wire)
    × HaveSoFar (g.W.Wire.honest l.initial.wire) (take l.one-index l.moves) (begins l.fn.a l.fn.b) l.answers
