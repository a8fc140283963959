use Rattle.bgp_wire.proofs.Std.{[], ◌∷◌, sym, ◌∙◌, on_err_weaker, err_from_is_err_and}
use Rattle.std.proofs.lemmas.List.{append-nil}
use Rattle.std.proofs.lemmas.Result.{on_ok_weaker}
use Rattle.bgp_wire.proofs.Rooms.{extends_more}
use Rattle.bgp_attr.specs.Prelude.{segment_value}
use Rattle.bgp_update.proofs.ToldPaths.{narrow_written}
use Rattle.bgp_update.proofs.told_path.put_segment.Goals as goal

pub returns-clause-ok : goal.returns-clause-ok
returns-clause-ok c =
    on_ok_weaker c.put_numbers.result
    (narrow_written (segment_value c.args.segment) c.segment_code.result c.left-count.result c.args.out.now.items c.extend_from_slice.new.self.items c.put_numbers.new.out.items
    c.segment_code.ensures c.left-count.ensures c.in_ok-extend_from_slice.ensures.items)
    c.put_numbers.ensures.ok

pub returns-clause-err : goal.returns-clause-err
returns-clause-err c =
    on_err_weaker c.put_numbers.result
    (extends_more c.args.out.now.items c.extend_from_slice.new.self.items c.put_numbers.new.out.items (c.segment_code.result ∷ c.left-count.result ∷ []) c.in_ok-extend_from_slice.ensures.items)
    c.put_numbers.ensures.err

pub returns-in_err-extend_from_slice-clause-err : goal.returns-in_err-extend_from_slice-clause-err
returns-in_err-extend_from_slice-clause-err c =
    let p = err_from_is_err_and c.from_residual.result c.from_residual.ensures.1 in
    rw p.1 ([], c.in_err-extend_from_slice.ensures.items ∙ sym (append-nil c.args.out.now.items))
