use Rattle.bgp_prefix.proofs.LawLemmas.{written_is_run}
use Rattle.bgp_prefix.proofs.laws.written_runs_are_read.Goals as goal

pub returns : goal.returns
returns c = written_is_run
