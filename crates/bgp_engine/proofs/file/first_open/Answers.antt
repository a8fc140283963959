use Rattle.bgp_engine.proofs.Prelude.{◌≡◌, Option, subst, IfOk, Message, Open}
use Rattle.bgp_engine.proofs.FirstOpens.{front_open}
use Rattle.bgp_engine.proofs.file.first_open.Goals as goal

pub returns-in-Frame : goal.returns-in-Frame
returns-in-Frame c =
    let m : Message = record { kind = c.in-Frame.frame.kind; body = c.in-Frame.frame.body.now } in
    subst (λ (o : Option Open). IfOk c.open_in.result (λ found. found ≡ o)) (front_open c.args.octets.now m c.in-Frame.frame.len c.in-Frame.ensures) c.open_in.ensures
