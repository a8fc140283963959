use Rattle.bgp_session.proofs.Prelude.{sym, subst, IfOk, Rests, IsTried, World}
use Rattle.bgp_session.specs.contracts.pairing.Pairing.{the_view}
use Rattle.bgp_session.proofs.Resting.{made_a, made_b, tries_a, tries_b, tries_rest_a, tries_rest_b}
use Rattle.bgp_session.proofs.pairing.Pairing.try_send.Goals as goal

pub returns-in-A-clause-sent : goal.returns-in-A-clause-sent
returns-in-A-clause-sent g c =
    let w : World = the_view c.self.inside in
    subst (λ (o : World). IfOk c.send.result (λ (found : _). IsTried c.args.side c.args.update.now o found (made_a w c.args.update.now c.send.new.this c.send.new.other))) c.self.view_is
    (tries_a w c.args.update.now c.send.new.this c.send.new.other c.args.side c.send.result c.in-A.is c.send.ensures.sent)

pub returns-in-A-clause-rests : goal.returns-in-A-clause-rests
returns-in-A-clause-rests g c = λ rests.
    let w : World = the_view c.self.inside in
    tries_rest_a w c.args.update.now c.send.new.this c.send.new.other c.args.side c.send.result (subst Rests (sym c.self.view_is) rests) c.send.ensures.sent

pub returns-in-B-clause-sent : goal.returns-in-B-clause-sent
returns-in-B-clause-sent g c =
    let w : World = the_view c.self.inside in
    subst (λ (o : World). IfOk c.send-in-B.result (λ (found : _). IsTried c.args.side c.args.update.now o found (made_b w c.args.update.now c.send-in-B.new.this c.send-in-B.new.other))) c.self.view_is
    (tries_b w c.args.update.now c.send-in-B.new.this c.send-in-B.new.other c.args.side c.send-in-B.result c.in-B.is c.send-in-B.ensures.sent)

pub returns-in-B-clause-rests : goal.returns-in-B-clause-rests
returns-in-B-clause-rests g c = λ rests.
    let w : World = the_view c.self.inside in
    tries_rest_b w c.args.update.now c.send-in-B.new.this c.send-in-B.new.other c.args.side c.send-in-B.result (subst Rests (sym c.self.view_is) rests) c.send-in-B.ensures.sent
