use Rattle.bgp_wire.proofs.Std.{[], ◌∷◌, on_err_weaker, err_from_is_err_and}
use Rattle.std.proofs.Common.{arith}
use Rattle.std.proofs.lemmas.Grind.{common_steps}
use Rattle.bgp_wire.proofs.Rooms.{extends_more}
use Rattle.bgp_update.proofs.ToldPaths.{extends_by}
use Rattle.bgp_update.proofs.told_path.put_narrow_path.Goals as goal

-- given here, since `search` would first try other ways in vain
pub returns-clause-ok : goal.returns-clause-ok
returns-clause-ok c = grind (arith, common_steps)

pub returns-clause-err : goal.returns-clause-err
returns-clause-err c =
    on_err_weaker c.finish_attr.result
    (λ e. extends_by c.args.out.now.items c.begin_attr.new.out.items c.put_path.new.out.items c.finish_attr.new.out.items (0 ∷ 0 ∷ 0 ∷ []) _ c.in_ok-begin_attr.ensures.ok c.in_ok-put_path.ensures.ok e)
    c.finish_attr.ensures.err

pub returns-in_err-put_path-clause-err : goal.returns-in_err-put_path-clause-err
returns-in_err-put_path-clause-err c =
    let p = err_from_is_err_and c.from_residual-in_err-put_path.result c.from_residual-in_err-put_path.ensures.1 in
    rw p.1 (extends_more c.args.out.now.items c.begin_attr.new.out.items c.put_path.new.out.items (0 ∷ 0 ∷ 0 ∷ []) c.in_ok-begin_attr.ensures.ok c.in_err-put_path.ensures.err)
