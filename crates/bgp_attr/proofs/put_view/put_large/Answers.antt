use Rattle.bgp_wire.proofs.Std.{◌≡◌, ℕ, List, [], ◌∷◌, rules}
use Rattle.bgp_attr.specs.Prelude.{triples_left, triple_octets}
use Rattle.bgp_attr.proofs.Parts.{on_refusal}
use Rattle.bgp_attr.proofs.ViewWrites.{one_more, no_more, stopped}
use Rattle.bgp_attr.proofs.put_view.put_large.Goals as goal

pub returns-in_err-put_triple-clause-err : goal.returns-in_err-put_triple-clause-err
returns-in_err-put_triple-clause-err g c =
    let written = g.O.Output.written in
    let later : List (List ℕ) = triples_left c.next.new.self in
    let first : triples_left c.row.triple-iterator ≡ c.in-Some.triple ∷ later = search rules in
    on_refusal c.from_residual.result (stopped triple_octets (triples_left c.args.values) (triples_left c.row.triple-iterator) (written c.args.out.now) (written c.row.out) c.row.invariant g.O.Output.room c.in-Some.triple later (written c.put_triple.new.out) first c.in_err-put_triple.ensures.err)

pub row-preserved : goal.row-preserved
row-preserved g c =
    let written = g.O.Output.written in
    let later : List (List ℕ) = triples_left c.next.new.self in
    let first : triples_left c.row.triple-iterator ≡ c.in-Some.triple ∷ later = search rules in
    one_more triple_octets (triples_left c.args.values) (triples_left c.row.triple-iterator) (written c.args.out.now) (written c.row.out) c.row.invariant c.in-Some.triple later (written c.put_triple.new.out) first c.in_ok-put_triple.ensures.ok.0

pub returns-clause-ok : goal.returns-clause-ok
returns-clause-ok g c =
    let none : triples_left c.row.triple-iterator ≡ [] = search rules in
    no_more triple_octets (triples_left c.args.values) (triples_left c.row.triple-iterator) (g.O.Output.written c.args.out.now) (g.O.Output.written c.row.out) c.row.invariant none
