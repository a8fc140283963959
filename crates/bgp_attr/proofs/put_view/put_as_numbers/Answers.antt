use Rattle.bgp_wire.proofs.Std.{ℕ, Bool, List, ◌++◌, length, true, sym, ap, ◌∙◌, arith, on_ok_weaker, on_err_weaker}
use Rattle.bgp_attr.specs.Prelude.{numbers_of, row_octets}
use Rattle.bgp_attr.proofs.NumberOctets.{as_number_octets}
use Rattle.bgp_attr.proofs.put_view.put_as_numbers.Goals as goal

pub returns-then-numbers-clause-ok : goal.returns-then-numbers-clause-ok
returns-then-numbers-clause-ok g c =
    let b = c.args.numbers.rest.now in
    on_ok_weaker c.put_fours.result
    (λ e. e ∙ ap (λ (x : List ℕ). g.O.Output.written c.args.out.now ++ x) (ap (λ (w : Bool). row_octets true (numbers_of w b)) (sym c.if-numbers.true) ∙ as_number_octets c.args.wide (numbers_of c.args.numbers.wide b) c.if-wide.true))
    c.put_fours.ensures.ok

pub returns-then-numbers-clause-err : goal.returns-then-numbers-clause-err
returns-then-numbers-clause-err g c =
    let b = c.args.numbers.rest.now in
    on_err_weaker c.put_fours.result
    (λ p. (p.0, omega (arith, p.1, ap length (ap (λ (w : Bool). row_octets true (numbers_of w b)) (sym c.if-numbers.true) ∙ as_number_octets c.args.wide (numbers_of c.args.numbers.wide b) c.if-wide.true))))
    c.put_fours.ensures.err
