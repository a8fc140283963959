use Rattle.bgp_wire.proofs.Std.{◌++◌, on_ok_weaker}
use Rattle.bgp_attr.proofs.Parts.{on_refusal, hops_refused, on_both, part_written, last_left_out, behind_hops}
use Rattle.bgp_attr.proofs.value_writing.put_reach_row.Goals as goal

pub returns-clause-ok : goal.returns-clause-ok
returns-clause-ok g c =
    on_ok_weaker c.write_run.result (part_written (g.O.Output.written c.args.out.now) _ _ _ _ (g.O.Output.written c.write_run.new.out) (behind_hops c.args.family (c.args.hop.now ++ c.args.link.now) c.args.routes.now) c.in_ok-put_hops.ensures.ok.0) c.write_run.ensures.ok

pub returns-clause-err : goal.returns-clause-err
returns-clause-err g c =
    on_both c.write_run.result (last_left_out g.O.Output.room (g.O.Output.written c.args.out.now) _ _ _ _ (g.O.Output.written c.write_run.new.out) (behind_hops c.args.family (c.args.hop.now ++ c.args.link.now) c.args.routes.now) c.in_ok-put_hops.ensures.ok.0) c.write_run.ensures.err c.write_run.ensures.full

pub returns-in_err-put_hops-clause-err : goal.returns-in_err-put_hops-clause-err
returns-in_err-put_hops-clause-err g c =
    on_refusal c.from_residual.result (hops_refused g.O.Output.room (g.O.Output.written c.args.out.now) (g.O.Output.written c.put_hops.new.out) c.args.family (c.args.hop.now ++ c.args.link.now) c.args.routes.now c.in_err-put_hops.ensures.err)
