use Rattle.bgp_wire.proofs.Std.{◌≡◌, List, [], ◌∷◌, rules}
use Rattle.bgp_prefix.specs.declared.as_number.AsNumber.{AsNumber}
use Rattle.bgp_attr.specs.Prelude.{as_numbers_left, number_octets}
use Rattle.bgp_attr.proofs.Parts.{on_refusal}
use Rattle.bgp_attr.proofs.ViewWrites.{one_more, no_more, stopped}
use Rattle.bgp_attr.proofs.put_view.put_each_number.Goals as goal

pub returns-in_err-put_number-clause-err : goal.returns-in_err-put_number-clause-err
returns-in_err-put_number-clause-err g c =
    let written = g.O.Output.written in
    let later : List AsNumber = as_numbers_left c.next.new.self in
    let first : as_numbers_left c.row.number-iterator ≡ c.in-Some.number ∷ later = search rules in
    on_refusal c.from_residual.result (stopped (λ n. number_octets c.args.wide n.0) (as_numbers_left c.args.numbers) (as_numbers_left c.row.number-iterator) (written c.args.out.now) (written c.row.out) c.row.invariant g.O.Output.room c.in-Some.number later (written c.put_number.new.out) first c.in_err-put_number.ensures.err)

pub row-preserved : goal.row-preserved
row-preserved g c =
    let written = g.O.Output.written in
    let later : List AsNumber = as_numbers_left c.next.new.self in
    let first : as_numbers_left c.row.number-iterator ≡ c.in-Some.number ∷ later = search rules in
    one_more (λ n. number_octets c.args.wide n.0) (as_numbers_left c.args.numbers) (as_numbers_left c.row.number-iterator) (written c.args.out.now) (written c.row.out) c.row.invariant c.in-Some.number later (written c.put_number.new.out) first c.in_ok-put_number.ensures.ok.0

pub returns-clause-ok : goal.returns-clause-ok
returns-clause-ok g c =
    let none : as_numbers_left c.row.number-iterator ≡ [] = search rules in
    no_more (λ n. number_octets c.args.wide n.0) (as_numbers_left c.args.numbers) (as_numbers_left c.row.number-iterator) (g.O.Output.written c.args.out.now) (g.O.Output.written c.row.out) c.row.invariant none
