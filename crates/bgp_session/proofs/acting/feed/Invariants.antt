use Rattle.bgp_session.proofs.Prelude.{◌≡◌, IsReady, weight, fed_on, left_seen, pair, fed, observed, octets_seen}
use Rattle.bgp_session.proofs.acting.feed.Given as goal

-- what the piece does is what its rest does on the result so far
abbrev pub invariant-piece : goal.invariant-piece
invariant-piece g l =
    IsReady l.this.session
    × (fed l.fn.side (pair l.initial.this l.initial.other l.initial.notes) l.fn.piece ≡ fed_on l.fn.side (pair l.this l.other l.notes) l.rest)
    × (observed g.O.Observer.after (g.O.Observer.seen l.initial.observer) (octets_seen l.fn.side l.initial.this.session l.fn.piece)
    ≡ observed g.O.Observer.after (g.O.Observer.seen l.observer) (left_seen l.fn.side l.this.session l.rest))

abbrev pub decreases-piece : goal.decreases-piece
decreases-piece g l = weight l.this.session l.rest
