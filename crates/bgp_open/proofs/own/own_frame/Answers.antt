use Rattle.std.proofs.Common.{length, arith, sym, ap, ◌∙◌}
use Rattle.bgp_open.proofs.Owns.{own-spells}
use Rattle.bgp_open.proofs.own.own_frame.Goals as goal

pub returns-clause-spelled : goal.returns-clause-spelled
returns-clause-spelled c =
    own-spells c.args.config.now c.local_as.ensures.allowed (omega arith) (omega arith) (ap length (sym c.id.ensures.value) ∙ c.id.ensures.four)
