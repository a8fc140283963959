use Rattle.bgp_wire.proofs.Std.{ℕ, List, ◌++◌, length, ap, ◌∙◌, arith, on_ok_weaker, on_err_weaker}
use Rattle.bgp_attr.proofs.NumberOctets.{four_octets}
use Rattle.bgp_attr.proofs.put_view.put_fours.Goals as goal

pub returns-clause-ok : goal.returns-clause-ok
returns-clause-ok g c =
    on_ok_weaker c.put_octets.result (λ p. p.0 ∙ ap (λ (b : List ℕ). g.O.Output.written c.args.out.now ++ b) (four_octets c.args.octets.now (λ i. omega (arith, c.type_inv.octets i)))) c.put_octets.ensures.ok

pub returns-clause-err : goal.returns-clause-err
returns-clause-err g c =
    on_err_weaker c.put_octets.result (λ p. (p.0, omega (arith, p.1, ap length (four_octets c.args.octets.now (λ i. omega (arith, c.type_inv.octets i)))))) c.put_octets.ensures.err
