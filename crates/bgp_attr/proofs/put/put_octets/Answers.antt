use Rattle.bgp_wire.proofs.Std.{[], sym, ◌∙◌, arith, on_ok_weaker}
use Rattle.std.proofs.lemmas.List.{append-nil}
use Rattle.bgp_attr.proofs.Parts.{on_both}
use Rattle.bgp_attr.proofs.put.put_octets.Goals as goal

pub returns : goal.returns
returns g c =
    record {
      ok = on_ok_weaker c.put.result (λ e. (e, λ i. omega (arith, c.type_inv.octets i))) c.put.ensures.ok;
      err = on_both c.put.result (λ same full. (([], same ∙ sym (append-nil (g.O.Output.written c.args.out.now))), full)) c.put.ensures.err c.put.ensures.full;
    }
