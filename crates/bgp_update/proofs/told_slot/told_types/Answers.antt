use Rattle.bgp_wire.proofs.Std.{◌≡◌, ℕ, false, ltb, List, [], length, map, take, ap, sym, ◌∙◌, arith, flat_map, list_any, nil_from_length}
use Rattle.std.proofs.lemmas.List.{length-take}
use Rattle.std.proofs.lemmas.Bool.{eqb-true}
use Rattle.bgp_attr.specs.declared.opaque.Opaque.{Opaque}
use Rattle.bgp_attr.specs.Prelude.{opaque_value}
use Rattle.bgp_update.specs.Prelude.{slot}
use Rattle.bgp_update.proofs.SlotTypes.{order_long, recognised_types, common_types}
use Rattle.bgp_update.proofs.told_slot.told_types.Goals as goal

pub slice_bounds-result-end-else-are_uncommon : goal.slice_bounds-result-end-else-are_uncommon
slice_bounds-result-end-else-are_uncommon c =
    let types = c.order-else-are_uncommon in
    omega (arith, ap length types.ensures, order_long, length-take 41 types.result.now)

pub returns-then-is_empty : goal.returns-then-is_empty
returns-then-is_empty c =
    let none : c.args.others.now ≡ [] = nil_from_length c.args.others.now (eqb-true (length c.args.others.now) 0 (sym c.is_empty.ensures ∙ c.if-is_empty.true)) in
    λ a same. recognised_types a (same ∙ ap (map opaque_value) none)

pub returns-else-are_uncommon : goal.returns-else-are_uncommon
returns-else-are_uncommon c =
    let low : list_any (λ (o : Opaque). ltb 40 o.kind) (map opaque_value c.args.others.now) ≡ false = sym c.are_uncommon.ensures ∙ c.if-are_uncommon.false in
    λ a same.
    ap (λ (ks : List ℕ). flat_map (slot a) (take 41 ks)) c.order-else-are_uncommon.ensures
    ∙ common_types a (ap (list_any (λ (o : Opaque). ltb 40 o.kind)) same ∙ low)
