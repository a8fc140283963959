use Rattle.bgp_wire.proofs.Std.{◌≡◌, length, list_any}
use Rattle.bgp_attr.specs.Prelude.{triples_of, same_triple}
use Rattle.bgp_attr.proofs.large_view.stands_in.Given as goal

-- the triple is among what is left exactly where it is among all
abbrev pub invariant-row : goal.invariant-row
invariant-row l = list_any (same_triple l.triple) (triples_of l.rest) ≡ list_any (same_triple l.triple) (triples_of l.octets)

abbrev pub decreases-row : goal.decreases-row
decreases-row l = length l.rest
