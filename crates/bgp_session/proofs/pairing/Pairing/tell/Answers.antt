use Rattle.bgp_session.proofs.Prelude.{sym, subst, Pair, pair, Rests}
use Rattle.bgp_session.proofs.Resting.{on_ok, told_both}
use Rattle.bgp_session.proofs.pairing.Pairing.tell.Goals as goal

pub returns-in-A-clause-rests : goal.returns-in-A-clause-rests
returns-in-A-clause-rests g c = λ rests.
    let p : Pair = pair c.self.inside.a c.self.inside.b c.self.inside.notes in
    let q : Pair = pair c.tell.new.this c.tell.new.other c.tell.new.notes in
    let both = subst Rests (sym c.self.view_is) rests in
    on_ok (λ told. told_both c.args.side p q c.args.event told both) c.tell.result c.tell.ensures.told

pub returns-in-B-clause-rests : goal.returns-in-B-clause-rests
returns-in-B-clause-rests g c = λ rests.
    let p : Pair = pair c.self.inside.b c.self.inside.a c.self.inside.notes in
    let q : Pair = pair c.tell-in-B.new.this c.tell-in-B.new.other c.tell-in-B.new.notes in
    let both = subst Rests (sym c.self.view_is) rests in
    on_ok (λ told. let rest = told_both c.args.side p q c.args.event told (both.1, both.0) in (rest.1, rest.0)) c.tell-in-B.result c.tell-in-B.ensures.told
