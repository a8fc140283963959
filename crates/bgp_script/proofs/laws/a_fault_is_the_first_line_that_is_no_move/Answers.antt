use Rattle.bgp_script.proofs.FirstFaults.{first_fault, is_fault}
use Rattle.bgp_script.proofs.laws.a_fault_is_the_first_line_that_is_no_move.Goals as goal

pub returns : goal.returns
returns c speakers lines n = (first_fault speakers lines n, is_fault speakers lines n)
