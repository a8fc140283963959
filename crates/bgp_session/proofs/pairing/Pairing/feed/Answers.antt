use Rattle.bgp_session.proofs.Prelude.{sym, subst, Pair, pair, Rests}
use Rattle.bgp_session.proofs.Resting.{on_ok_both, fed_both}
use Rattle.bgp_session.proofs.pairing.Pairing.feed.Goals as goal

pub returns-in-A-clause-rests : goal.returns-in-A-clause-rests
returns-in-A-clause-rests g c =
    let p : Pair = pair c.self.inside.a c.self.inside.b c.self.inside.notes in
    let q : Pair = pair c.feed.new.this c.feed.new.other c.feed.new.notes in
    let both = subst Rests (sym c.self.view_is) c.requires.rests in
    on_ok_both (λ fed rest. (rest, fed_both c.args.side p q c.args.piece.now fed rest both.1)) c.feed.result c.feed.ensures.fed c.feed.ensures.rests

pub returns-in-B-clause-rests : goal.returns-in-B-clause-rests
returns-in-B-clause-rests g c =
    let p : Pair = pair c.self.inside.b c.self.inside.a c.self.inside.notes in
    let q : Pair = pair c.feed-in-B.new.this c.feed-in-B.new.other c.feed-in-B.new.notes in
    let both = subst Rests (sym c.self.view_is) c.requires.rests in
    on_ok_both (λ fed rest. (fed_both c.args.side p q c.args.piece.now fed rest both.0, rest)) c.feed-in-B.result c.feed-in-B.ensures.fed c.feed-in-B.ensures.rests
