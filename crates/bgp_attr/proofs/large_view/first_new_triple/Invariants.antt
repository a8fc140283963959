use Rattle.std.proofs.Common.{◌≡◌, ◌-◌, length}
use Rattle.bgp_attr.specs.Prelude.{IsRowUpTo, new_from}
use Rattle.bgp_attr.proofs.large_view.first_new_triple.Given as goal

-- the triples new from here on are those new from the start
abbrev pub invariant-row : goal.invariant-row
invariant-row l = IsRowUpTo l.octets l.at × (new_from l.octets l.from ≡ new_from l.octets l.at)

abbrev pub decreases-row : goal.decreases-row
decreases-row l = length l.octets - l.at
