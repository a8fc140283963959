use Rattle.bgp_wire.proofs.Std.{ℕ, List, ◌∷◌, get_or, ap, on_ok_weaker}
use Rattle.bgp_numbers.specs.declared.safi.TheConstants.{UNICAST}
use Rattle.bgp_attr.specs.Prelude.{run_octets}
use Rattle.bgp_attr.proofs.Parts.{on_both, part_written, last_left_out}
use Rattle.bgp_attr.proofs.value_writing.put_unreach_row.Goals as goal

pub returns : goal.returns
returns g c =
    let row = ap (λ (l : List ℕ). get_or l 0 0 ∷ get_or l 1 0 ∷ UNICAST ∷ run_octets c.args.routes.now) c.to_be_bytes.ensures in
    record {
      ok = on_ok_weaker c.write_run.result (part_written (g.O.Output.written c.args.out.now) _ _ _ _ (g.O.Output.written c.write_run.new.out) row c.in_ok-put_octets.ensures.ok.0) c.write_run.ensures.ok;
      routes = c.write_run.ensures.valid;
      err = on_both c.write_run.result (last_left_out g.O.Output.room (g.O.Output.written c.args.out.now) _ _ _ _ (g.O.Output.written c.write_run.new.out) row c.in_ok-put_octets.ensures.ok.0) c.write_run.ensures.err c.write_run.ensures.full;
    }
