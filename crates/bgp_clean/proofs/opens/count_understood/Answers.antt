use Rattle.bgp_clean.proofs.Prelude.{arith, open_value, none_seen}
use Rattle.bgp_clean.proofs.Understood.{few_understood}
use Rattle.bgp_clean.proofs.opens.count_understood.Goals as goal

pub overflow_add-count : goal.overflow_add-count
overflow_add-count c = omega (arith, c.row.invariant, few_understood none_seen (open_value c.args.view.now).caps)
