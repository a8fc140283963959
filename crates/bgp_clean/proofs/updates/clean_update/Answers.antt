use Rattle.bgp_clean.proofs.Prelude.{has_octet, cleaned_update, update_value}
use Rattle.bgp_clean.proofs.Dropped.{dropped-written}
use Rattle.bgp_clean.proofs.Announcing.{parts-put}
use Rattle.bgp_clean.proofs.updates.clean_update.Goals as goal

pub put_update-requires : goal.put_update-requires
put_update-requires g c =
    let ctx = c.args.ctx.now in
    let drops = has_octet c.args.drops.now in
    let u = update_value c.args.view.now in
    parts-put ctx (cleaned_update drops u) c.args.frame.body.now (dropped-written drops ctx u c.args.frame.body.now c.requires.can) c.requires.body
