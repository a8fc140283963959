use Rattle.bgp_wire.proofs.Std.{length, ap, arith}
use Rattle.std.proofs.lemmas.List.{length-take}
use Rattle.bgp_update.proofs.SlotTypes.{order_long}
use Rattle.bgp_update.proofs.order.types_of.Goals as goal

pub slice_bounds-result-end-else-are_uncommon : goal.slice_bounds-result-end-else-are_uncommon
slice_bounds-result-end-else-are_uncommon c =
    let types = c.order-else-are_uncommon in
    omega (arith, ap length types.ensures, order_long, length-take 41 types.result.now)
