use Rattle.bgp_prefix.proofs.LawLemmas.{Row-rewritten}
use Rattle.bgp_prefix.proofs.laws.runs_are_rewritten.Goals as goal

pub returns : goal.returns
returns c = record {
  row = λ width ps b octets row. (Row-rewritten width ps b octets row).0;
  len = λ width ps b octets row. (Row-rewritten width ps b octets row).1;
}
