use Rattle.bgp_wire.proofs.Std.{◌++◌, on_ok_weaker}
use Rattle.bgp_prefix.specs.Prelude.{prefixes_left}
use Rattle.bgp_attr.proofs.Parts.{on_refusal, hops_refused, on_both, part_written, last_left_out, behind_hops}
use Rattle.bgp_attr.proofs.put_view.put_reach_row.Goals as goal

pub returns : goal.returns
returns g c =
    let row = behind_hops c.args.family (c.args.hop.now ++ c.args.link.now) (prefixes_left c.args.routes) in
    record {
      ok = on_ok_weaker c.write.result (part_written (g.O.Output.written c.args.out.now) _ _ _ _ (g.O.Output.written c.write.new.out) row c.in_ok-put_hops.ensures.ok.0) c.write.ensures.ok;
      err = on_both c.write.result (last_left_out g.O.Output.room (g.O.Output.written c.args.out.now) _ _ _ _ (g.O.Output.written c.write.new.out) row c.in_ok-put_hops.ensures.ok.0) c.write.ensures.err c.write.ensures.full;
    }

pub returns-in_err-put_hops-clause-err : goal.returns-in_err-put_hops-clause-err
returns-in_err-put_hops-clause-err g c =
    on_refusal c.from_residual.result (hops_refused g.O.Output.room (g.O.Output.written c.args.out.now) (g.O.Output.written c.put_hops.new.out) c.args.family (c.args.hop.now ++ c.args.link.now) (prefixes_left c.args.routes) c.in_err-put_hops.ensures.err)
