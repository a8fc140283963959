use Rattle.bgp_wire.proofs.Std.{◌≡◌, ◌<◌, length, AllByRecursion}
use Rattle.bgp_update.specs.Prelude.{rise}
use Rattle.bgp_update.proofs.refusal.rise.Given as goal

-- all types ascend where those that are left do, and those before them are types
abbrev pub invariant-types : goal.invariant-types
invariant-types l = (rise l.others ≡ rise l.rest) × (AllByRecursion (λ o. o.kind < 256) l.rest → AllByRecursion (λ o. o.kind < 256) l.others)

abbrev pub decreases-types : goal.decreases-types
decreases-types l = length l.rest
