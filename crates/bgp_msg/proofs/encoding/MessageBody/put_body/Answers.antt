use Rattle.std.proofs.lemmas.Result.{on_ok_weaker}
use Rattle.bgp_update.specs.declared.invalid.Invalid.TheVariants.{BadOpen}
use Rattle.bgp_msg.proofs.Encodings.{open_taken, open_fits, open_written, update_written}
use Rattle.bgp_msg.proofs.encoding.MessageBody.put_body.Goals as goal

pub returns-in-Open-clause-not_valid : goal.returns-in-Open-clause-not_valid
returns-in-Open-clause-not_valid c = rw c.in-Open.is c.put_open.ensures.not_valid

pub returns-in-Open-clause-too_long : goal.returns-in-Open-clause-too_long
returns-in-Open-clause-too_long c =
    rw c.in-Open.is (
      (λ e. absurd (c.put_open.ensures.fits e)),
      (λ both. absurd (open_fits c.args.ctx.now c.in-Open.open c.put_open.ensures.short both.0 both.1)),
    )

pub returns-in-Open-clause-allowed : goal.returns-in-Open-clause-allowed
returns-in-Open-clause-allowed c =
    rw c.in-Open.is (open_written c.in-Open.open c.put_open.result c.put_open.ensures.spelled (c.put_open.ensures.not_valid BadOpen).1 c.put_open.ensures.short)

pub returns-in-Open-clause-put : goal.returns-in-Open-clause-put
returns-in-Open-clause-put c = rw c.in-Open.is (on_ok_weaker c.put_open.result (λ spelled. open_taken c.in-Open.open spelled) c.put_open.ensures.spelled)

pub returns-in-Update-clause-not_valid : goal.returns-in-Update-clause-not_valid
returns-in-Update-clause-not_valid c = rw c.in-Update.is c.write_update.ensures.not_valid

pub returns-in-Update-clause-allowed : goal.returns-in-Update-clause-allowed
returns-in-Update-clause-allowed c =
    rw c.in-Update.is (update_written c.args.ctx.now c.in-Update.update c.write_update.result (λ why. (c.write_update.ensures.not_valid why).1) c.write_update.ensures.too_long.1)
