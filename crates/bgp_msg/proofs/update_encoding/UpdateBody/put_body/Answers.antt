use Rattle.bgp_msg.proofs.Encodings.{update_written}
use Rattle.bgp_msg.proofs.update_encoding.UpdateBody.put_body.Goals as goal

pub returns-clause-allowed : goal.returns-clause-allowed
returns-clause-allowed c = update_written c.args.ctx.now c.args.self.now c.write_update.result (λ why. (c.write_update.ensures.not_valid why).1) c.write_update.ensures.too_long.1
