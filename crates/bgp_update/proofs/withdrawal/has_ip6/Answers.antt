use Rattle.bgp_prefix.specs.Prelude.{prefixes_left}
use Rattle.bgp_wire.proofs.Std.{sym, ◌∙◌}
use Rattle.bgp_update.proofs.Withdrawals.{some_gone}
use Rattle.bgp_update.proofs.withdrawal.has_ip6.Goals as goal

pub returns-then-has_next-clause-some : goal.returns-then-has_next-clause-some
returns-then-has_next-clause-some c = λ some. some_gone (prefixes_left c.args.routes.now.gone.ip6) (prefixes_left c.args.routes.now.reached.ip6) (sym c.has_next.ensures ∙ some)
