use Rattle.bgp_wire.proofs.Std.{◌≡◌, map, IfOk-weaker, List}
use Rattle.bgp_attr.specs.Prelude.{opaque_value}
use Rattle.bgp_attr.specs.declared.opaque.Opaque.{Opaque}
use Rattle.bgp_update.specs.Body.{parts_value}
use Rattle.bgp_update.specs.ByType.{IsRowOf}
use Rattle.bgp_update.specs.Prelude.{kept_of, attrs_of, view_marks}
use Rattle.bgp_update.proofs.TakenSlots.{others-rise, others-small}
use Rattle.bgp_update.proofs.view.UpdateView.sorted_others.Goals as goal

pub returns : goal.returns
returns c =
    let view = c.args.self.now in
    let parts = parts_value view.body in
    let others : List Opaque = (attrs_of (kept_of (view_marks view))).others in
    let octets = c.are_octets.ensures in
    IfOk-weaker c.row_of.result (λ row. IsRowOf c.sort_others.new.place row) (λ row. map opaque_value row ≡ others)
    (λ row all. all others c.sort_others.ensures (others-rise view.ctx parts octets) (others-small view.ctx parts octets))
    c.row_of.ensures
