use Rattle.bgp_machine.proofs.Prelude.{◌∙◌}
use Rattle.bgp_machine.proofs.Looks.{looked_pulls}
use Rattle.bgp_machine.proofs.session.Session.own_look.Goals as goal

pub returns-in_ok-next-in-Some-clause-ok : goal.returns-in_ok-next-in-Some-clause-ok
returns-in_ok-next-in-Some-clause-ok c =
    let old = c.args.self.now in
    let found = c.in-Some.ensures in (
      looked_pulls old c.args.piece.now c.in-Some.look c.own.new.actions c.taken.result c.in_ok-next-in-Some.next.standing found c.in_ok-next-in-Some.ensures.ok c.taken.ensures c.in_ok-next-in-Some.ensures.next,
      rw c.taken.ensures found.within,
      c.in_ok-next-in-Some.ensures.from ∙ found.same,
    )
