use Rattle.bgp_prefix.proofs.LawLemmas.{run_splits, split_is_run}
use Rattle.bgp_prefix.proofs.laws.octets_have_one_split.Goals as goal

pub returns : goal.returns
returns c = record { split = run_splits; only = split_is_run }
