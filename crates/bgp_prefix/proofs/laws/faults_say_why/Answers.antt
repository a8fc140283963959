use Rattle.bgp_prefix.proofs.LawLemmas.{fault_why}
use Rattle.bgp_prefix.proofs.laws.faults_say_why.Goals as goal

pub returns : goal.returns
returns c = fault_why
