use Rattle.bgp_attr.specs.Prelude.{triples_left, triple_octets}
use Rattle.bgp_attr.proofs.ViewWrites.{IsWriting}
use Rattle.bgp_attr.proofs.put_view.put_large.Given as goal

-- those so far are written
abbrev pub invariant-row : goal.invariant-row
invariant-row g l = IsWriting triple_octets (triples_left l.fn.values) (triples_left l.triple-iterator) (g.O.Output.written l.initial.out) (g.O.Output.written l.out)
