use Rattle.bgp_msg.specs.Prelude.{outcome_value, behind}
use Rattle.bgp_msg.proofs.Pulls.{pulled_takes_memory, on_err_any}
use Rattle.bgp_msg.proofs.decoder.Decoder.own_look.Goals as goal

pub returns-in_err-outcome-in-Message-clause-memory : goal.returns-in_err-outcome-in-Message-clause-memory
returns-in_err-outcome-in-Message-clause-memory c =
    let d = c.args.self.now in
    let o = outcome_value c.in-Message.view in
    on_err_any c.from_residual.result
    (pulled_takes_memory d c.args.piece.now c.in-Message.taken c.in-Message.len o (behind d o) c.in_err-outcome-in-Message.ensures.err c.in-Message.ensures.0)
