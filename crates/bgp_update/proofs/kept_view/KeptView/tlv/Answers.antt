use Rattle.std.proofs.Common.{◌<◌, sym, arith}
use Rattle.bgp_update.proofs.Placed.{read-at}
use Rattle.bgp_update.proofs.kept_view.KeptView.tlv.Goals as goal

pub returns-clause-kept : goal.returns-clause-kept
returns-clause-kept c =
    let k = c.args.self.now in
    let some : 0 < c.place-place.result = omega (arith, c.if-place-eq0.false) in
    read-at k.ctx k.has_nlri k.field.now k.places k.placed c.args.kind c.place-place.result c.tlv_at.result (sym c.place-place.ensures) some c.tlv_at.ensures
