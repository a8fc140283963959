use Rattle.bgp_machine.proofs.Prelude.{ℕ, [], Option, refl, subst, IsOwnLook, Going}
use Rattle.bgp_machine.proofs.Looks.{held_waits}
use Rattle.bgp_machine.proofs.session.Session.step.Goals as goal

pub returns-in_default-clause-ok : goal.returns-in_default-clause-ok
returns-in_default-clause-ok c =
    let old = c.args.self.now in
    let none = subst (λ (found : Option (ℕ × Going)). IsOwnLook old [] found c.own_look.new.actions) c.in_default.is c.in_ok-_taken.ensures.ok in
    (held_waits old c.held-waiting.ensures.deaf none.0, refl)

pub returns-in_default-clause-rests : goal.returns-in_default-clause-rests
returns-in_default-clause-rests c =
    let old = c.args.self.now in
    let none = subst (λ (found : Option (ℕ × Going)). IsOwnLook old [] found c.own_look.new.actions) c.in_default.is c.in_ok-_taken.ensures.ok in
    c.held-waiting.ensures.rests (held_waits old c.held-waiting.ensures.deaf none.0)
