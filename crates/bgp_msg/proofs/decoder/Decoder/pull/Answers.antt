use Rattle.std.proofs.lemmas.Result.{IfOk-weaker}
use Rattle.bgp_msg.proofs.Pulls.{pulls_as_fed}
use Rattle.bgp_msg.proofs.decoder.Decoder.pull.Goals as goal

pub returns-clause-as_fed : goal.returns-clause-as_fed
returns-clause-as_fed c =
    IfOk-weaker c.pull_any.result _ _ (λ r pulled. pulls_as_fed c.args.self.now c.args.piece.now r.0 r.1 c.pull_any.new.self pulled) c.pull_any.ensures.ok
