use Rattle.bgp_machine.proofs.Prelude.{ℕ, Option, Some, sym, subst, IsOwnLook, IsFedAndStepped, Machine, Going}
use Rattle.bgp_machine.proofs.Cuttings.{pulls_as_fed}
use Rattle.bgp_machine.proofs.Looks.{fed_rests}
use Rattle.bgp_machine.proofs.session.Session.pull_into.Goals as goal

pub returns-in_default-clause-rests : goal.returns-in_default-clause-rests
returns-in_default-clause-rests c =
    let old = c.args.self.now in
    let none = subst (λ (found : Option (ℕ × Going)). IsOwnLook old c.args.piece.now found c.own_look.new.actions) c.in_default.is c.in_ok-taken.ensures.ok in
    fed_rests old c.args.piece.now c.feed.result c.feed.new.self c.feed.ensures.rests c.feed.ensures.deaf (none.0 c.feed.result c.feed.new.self c.feed.ensures.fed)

pub returns-clause-as_fed : goal.returns-clause-as_fed
returns-clause-as_fed c =
    let old = c.args.self.now in
    let found = subst (λ (found : Option (ℕ × Going)). IsOwnLook old c.args.piece.now found c.own_look.new.actions) c.in-Some.is c.in_ok-taken.ensures.ok in
    subst (λ (new : Machine). IsFedAndStepped old c.args.piece.now c.in-Some.taken (Some c.own_look.new.actions) new) (sym c.go.ensures)
    (pulls_as_fed old c.args.piece.now c.in-Some.taken (Some c.own_look.new.actions.items) _ found.0)
