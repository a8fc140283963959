use Rattle.bgp_guard.proofs.Prelude.{sym, subst, WaitsIn, nothing_waits}
use Rattle.bgp_guard.proofs.events.close.Goals as goal
use Rattle.bgp_guard.specs.Guard.{types}
use Rattle.bgp_guard.proofs.Types.{types-are}

pub returns-in-Runs-clause-waits : goal.returns-in-Runs-clause-waits
returns-in-Runs-clause-waits c = λ old. subst (WaitsIn types) (sym c.clear-2.ensures) (nothing_waits types types-are)

pub returns-in_default-clause-waits : goal.returns-in_default-clause-waits
returns-in_default-clause-waits c = λ old. subst (WaitsIn types) (sym c.clear-2.ensures) (nothing_waits types types-are)
