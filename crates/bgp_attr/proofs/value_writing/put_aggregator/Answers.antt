use Rattle.bgp_wire.proofs.Std.{refl, on_ok_weaker, on_err_weaker}
use Rattle.bgp_attr.specs.Prelude.{aggregator_octets}
use Rattle.bgp_attr.proofs.Parts.{part_written, last_refused}
use Rattle.bgp_attr.proofs.value_writing.put_aggregator.Goals as goal

pub returns : goal.returns
returns g c =
    record {
      ok = on_ok_weaker c.put_address.result (λ p. (part_written (g.O.Output.written c.args.out.now) _ _ (aggregator_octets c.args.wide c.args.aggregator.now) _ (g.O.Output.written c.put_address.new.out) refl c.in_ok-put_number.ensures.ok.0 p.0, c.in_ok-put_number.ensures.ok.1, p.1)) c.put_address.ensures.ok;
      err = on_err_weaker c.put_address.result (last_refused g.O.Output.room (g.O.Output.written c.args.out.now) _ _ (aggregator_octets c.args.wide c.args.aggregator.now) _ (g.O.Output.written c.put_address.new.out) refl c.in_ok-put_number.ensures.ok.0) c.put_address.ensures.err;
    }
