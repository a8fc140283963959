use Rattle.bgp_clean.proofs.Prelude.{◌+◌, length, arith, le-ltb, written_body}
use Rattle.bgp_clean.proofs.laws.nothing_is_refused_without_limits.Goals as goal

pub returns : goal.returns
returns c = λ ctx u short. le-ltb 4077 (length (written_body ctx u) + 0) (omega (arith, short))
