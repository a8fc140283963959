use Rattle.bgp_machine.proofs.Prelude.{ap, sym, subst, ◌∙◌, IsToFeed, Looked, Machine}
use Rattle.bgp_machine.proofs.Looks.{looked_as, finds_message, finds_fault, feeds}
use Rattle.bgp_machine.proofs.session.Session.look.Goals as goal

pub returns-in-Feed : goal.returns-in-Feed
returns-in-Feed c = feeds c.args.self.now c.args.piece.now (subst (λ (x : Machine). IsToFeed x.held c.args.piece.now) c.self.view_is c.in-Feed.ensures)

pub returns-in_ok-heard-in-Frame : goal.returns-in_ok-heard-in-Frame
returns-in_ok-heard-in-Frame c =
    let inside = c.self.inside in
    let of : Machine → Looked = λ m. record { taken = c.in-Frame.taken; was = m; heard = c.in_ok-heard-in-Frame.heard } in
    looked_as c.args.self.now c.args.piece.now _ _ _ c.self.view_is (c.new.ensures ∙ ap of (sym c.self.view_is))
    (finds_message inside.config inside.standing inside.framer c.args.piece.now c.in-Frame.taken c.in_ok-heard-in-Frame.heard c.in-Frame.frame c.in-Frame.ensures c.in_ok-heard-in-Frame.ensures)

pub returns-in_ok-heard-in-Fault : goal.returns-in_ok-heard-in-Fault
returns-in_ok-heard-in-Fault c =
    let inside = c.self.inside in
    let of : Machine → Looked = λ m. record { taken = c.in-Fault.taken; was = m; heard = c.in_ok-heard-in-Fault.heard } in
    looked_as c.args.self.now c.args.piece.now _ _ _ c.self.view_is (c.new-in-Fault.ensures ∙ ap of (sym c.self.view_is))
    (finds_fault inside.config inside.standing inside.framer c.args.piece.now c.in-Fault.taken c.in_ok-heard-in-Fault.heard c.in-Fault.fault c.in-Fault.ensures c.in_ok-heard-in-Fault.ensures)
